use Rattle.std.proofs.Common.{◌≡◌, [], length, ap, ◌∙◌, arith}
use Rattle.std.specs.Prelude.{replicate}
use Rattle.pmt_causes.proofs.late.no_fences.Goals as goal

pub returns : goal.returns
returns c =
    let all : length c.loop-alloc.fences.items ≡ 256 = omega (arith, c.loop-alloc.invariant.few) in
    c.loop-alloc.invariant.empty ∙ ap (λ n. replicate n []) all
