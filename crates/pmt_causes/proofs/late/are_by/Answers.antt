use Rattle.std.proofs.Common.{rules, arith}
use Rattle.pmt_causes.proofs.CountedLemmas.{counted-at}
use Rattle.pmt_causes.proofs.late.are_by.Goals.{else-count-fences-via-then-count-fences+else-fences-count-2, else-count-fences-via-else-count-fences, else-count-gt0-via-then-count-gt0+else-place-fences, else-count-gt0-via-else-count-gt0}
use Rattle.pmt_causes.proofs.late.are_by.Goals as goal

pub returns : goal.returns
returns c = λ yes.
    counted-at c.args.fences.now c.args.count c.args.place c.requires (omega arith)
    (λ more. elim c.else-count-fences.branch [
      | else-count-fences-via-then-count-fences+else-fences-count-2 w ↦ search rules
      | else-count-fences-via-else-count-fences w ↦ absurd (omega (arith, w.if-count-fences.false))
    ])
    (λ some. elim c.else-count-gt0.branch [
      | else-count-gt0-via-then-count-gt0+else-place-fences w ↦ search rules
      | else-count-gt0-via-else-count-gt0 w ↦ absurd (omega (arith, w.if-count-gt0.false))
    ])
