use Rattle.std.proofs.Common.{◌≡◌, ◌+◌, ◌<◌, length, ◌∙◌, ap, arith, rules}
use Rattle.std.specs.Prelude.{unwrap_or}
use Rattle.std.proofs.lemmas.List.{length-set}
use Rattle.std.proofs.lemmas.Option.{slice_get_within}
use Rattle.pmt_explain.specs.Following.{past_of, TellsSafe}
use Rattle.pmt_explain_run.proofs.PlaceLemmas.{place-told, told-next}
use Rattle.pmt_explain_run.proofs.places.places_of.Goals as goal

pub loop-index-init : goal.loop-index-init
loop-index-init c = record { size = search rules; each = λ n p below is. absurd (omega arith) }

pub loop-index-preserved : goal.loop-index-preserved
loop-index-preserved c =
    let T = c.args.trace.now in
    let i = c.loop-index.index in
    let whole : length c.in_ok-places.places.items ≡ length c.args.trace.now.events = search rules in
    let inside : c.loop-index.index < length c.loop-index.places.items = omega (arith, c.loop-index-test.true, c.len-index-end.ensures, whole, c.loop-index.invariant.size) in
    let past : c.len.result + 1 ≡ past_of c.args.trace.now = omega (arith, c.len.ensures.value) in
    let told = place-told T i (i + 1) c.place_or.result c.of.result (omega arith) (c.place_or.ensures ∙ ap (unwrap_or c.of.result) past) (λ l w at. c.of.ensures.safe T l w c.requires at) in
    record {
      size = length-set c.loop-index.places.items i c.place_or.result ∙ c.loop-index.invariant.size;
      each = λ n p below is. told-next (TellsSafe T) c.loop-index.places.items i n c.place_or.result p inside told c.loop-index.invariant.each below is;
    }

pub returns : goal.returns
returns c =
    let whole : length c.in_ok-places.places.items ≡ length c.args.trace.now.events = search rules in
    record {
      size = c.loop-index.invariant.size;
      each = λ n p is. c.loop-index.invariant.each n p (omega (arith, slice_get_within c.loop-index.places.items n p is, c.loop-index.invariant.size, c.loop-index-test.false, c.len-index-end.ensures, whole)) is;
    }
