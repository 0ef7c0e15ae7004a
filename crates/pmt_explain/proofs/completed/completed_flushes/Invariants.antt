use Rattle.pmt_explain.proofs.CompletedLemmas.{IsGoneBack}
use Rattle.pmt_explain.proofs.completed.completed_flushes.Given as goal

abbrev pub invariant-loop-index : goal.invariant-loop-index
invariant-loop-index l = IsGoneBack l.trace l.place l.index l.fenced l.flushes
