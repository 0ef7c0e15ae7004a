use Rattle.std.proofs.Common.{◌+◌, ◌<◌, arith, refl, rules}
use Rattle.pmt_explain.specs.Following.{past_of}
use Rattle.pmt_explain.proofs.BehindLemmas.{behind-start}
use Rattle.pmt_explain.proofs.behind.Behind.new.Goals as goal

pub returns : goal.returns
returns c =
    let T = c.args.trace.now in
    let long : past_of T < c.len.result + 2 = omega (arith, c.len.ensures.value) in
    behind-start T (record { places = c.in_ok-places.places; flushed = _ }) (c.len.result + 2) long (c.in_ok-places.ensures.items_if_clones_equal (λ y is. search rules)) refl
