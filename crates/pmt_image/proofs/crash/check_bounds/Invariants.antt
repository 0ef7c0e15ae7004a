use Rattle.pmt_image.proofs.Prelude.{drop, AllByRecursion, count_in, IsBetween}
use Rattle.pmt_image.proofs.crash.check_bounds.Given as goal

abbrev pub invariant-loop-index : goal.invariant-loop-index
invariant-loop-index l =
    AllByRecursion (IsBetween (count_in l.least) (count_in l.greatest)) (drop l.index l.asked) → AllByRecursion (IsBetween (count_in l.least) (count_in l.greatest)) l.asked
