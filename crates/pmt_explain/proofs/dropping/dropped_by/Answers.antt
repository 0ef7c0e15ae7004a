use Rattle.std.proofs.Common.{sym, subst}
use Rattle.pmt_explain.specs.Following.{AreNextFlushes, AreOwnFences}
use Rattle.pmt_explain.proofs.dropping.dropped_by.Goals as goal

pub dropped_before-requires-clause-fences : goal.dropped_before-requires-clause-fences
dropped_before-requires-clause-fences c = subst (AreOwnFences c.args.safe.now.trace.now) (sym c.as_slice-fences.ensures.value) c.requires.upcoming.fences

pub dropped_before-requires-clause-flushes : goal.dropped_before-requires-clause-flushes
dropped_before-requires-clause-flushes c = subst (AreNextFlushes c.args.safe.now.trace.now) (sym c.as_slice-flushes.ensures.value) c.requires.upcoming.flushes
