use Rattle.pmt_explain.specs.Crashes.{AreCountsBy}
use Rattle.pmt_explain.proofs.lines.counts_by.Given as goal

abbrev pub invariant-loop-index : goal.invariant-loop-index
invariant-loop-index l = AreCountsBy l.trace l.crash l.index l.counts
