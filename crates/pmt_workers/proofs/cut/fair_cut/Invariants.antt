use Rattle.pmt_workers.proofs.CutLemmas.{IsBestSoFar}
use Rattle.pmt_workers.proofs.cut.fair_cut.Given as goal

abbrev pub invariant-loop-i : goal.invariant-loop-i
invariant-loop-i l = IsBestSoFar l.jobs l.i l.front l.best l.least
