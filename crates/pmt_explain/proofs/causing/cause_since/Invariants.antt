use Rattle.pmt_reasons.proofs.ScanLemmas.{IsScanned}
use Rattle.pmt_explain.proofs.causing.cause_since.Given as goal

abbrev pub invariant-loop-index : goal.invariant-loop-index
invariant-loop-index l = IsScanned l.trace l.line l.store l.index l.flushed l.cause
