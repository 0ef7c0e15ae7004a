use Rattle.std.proofs.Common.{sym, subst}
use Rattle.std.specs.Prelude.{IfOk}
use Rattle.pmt_explain.specs.Following.{AreSafePlaces}
use Rattle.pmt_causes.specs.Late.{AreLateItems, AreWaited}
use Rattle.pmt_causes.proofs.late.late_stores.Goals as goal

pub late_by-requires-clause-safe : goal.late_by-requires-clause-safe
late_by-requires-clause-safe c = subst (λ S. AreSafePlaces S c.places.result.now) (sym c.trace-trace.ensures) c.places.ensures

pub returns-clause-waited : goal.returns-clause-waited
returns-clause-waited c = subst (λ S. IfOk c.late_by.result (λ late. AreWaited S late.waited.items)) c.trace-trace.ensures c.late_by.ensures.waited

pub returns-clause-items : goal.returns-clause-items
returns-clause-items c = subst (λ S. IfOk c.late_by.result (λ late. AreLateItems S c.args.labels.now late.items.items)) c.trace-trace.ensures c.late_by.ensures.items
