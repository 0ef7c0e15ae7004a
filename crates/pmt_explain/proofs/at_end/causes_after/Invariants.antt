use Rattle.pmt_explain.specs.CauseOf.{cause_in}
use Rattle.pmt_explain.proofs.AtEndLemmas.{IsBack}
use Rattle.pmt_explain.proofs.at_end.causes_after.Given as goal

abbrev pub invariant-loop-index : goal.invariant-loop-index
invariant-loop-index l = IsBack l.trace l.start l.index l.ahead.fenced l.ahead.fence (cause_in l.ahead.lines) l.causes.items
