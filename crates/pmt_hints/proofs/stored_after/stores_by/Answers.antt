use Rattle.std.proofs.Common.{sym, subst, ◌∙◌}
use Rattle.pmt_explain.specs.Following.{AreNextFlushes, AreOwnFences}
use Rattle.pmt_hints.specs.Hints.{AreThose, IsStoredAfterFlush}
use Rattle.pmt_hints.proofs.LeftLemmas.{none-first}
use Rattle.pmt_hints.proofs.stored_after.stores_by.Goals as goal

pub is_any_fenced_first-requires : goal.is_any_fenced_first-requires
is_any_fenced_first-requires c = c.requires.waited.size ∙ sym c.requires.places.size

pub last_fences-requires : goal.last_fences-requires
last_fences-requires c = c.requires.waited.size ∙ sym c.requires.places.size

pub told_stores-requires-clause-fences : goal.told_stores-requires-clause-fences
told_stores-requires-clause-fences c = subst (AreOwnFences c.args.trace.now) (sym c.as_slice-fences.ensures.value) c.requires.upcoming.fences

pub told_stores-requires-clause-flushes : goal.told_stores-requires-clause-flushes
told_stores-requires-clause-flushes c = subst (AreNextFlushes c.args.trace.now) (sym c.as_slice-flushes.ensures.value) c.requires.upcoming.flushes

pub returns-then-not-is_any_fenced_first : goal.returns-then-not-is_any_fenced_first
returns-then-not-is_any_fenced_first c =
    let T = c.args.trace.now in
    subst (AreThose (IsStoredAfterFlush T)) (sym c.new.ensures.items)
    (none-first T c.args.waited.now c.args.places.now c.as_slice-fences.result.now c.as_slice-flushes.result.now c.requires.places c.requires.waited
    (subst (AreOwnFences T) (sym c.as_slice-fences.ensures.value) c.requires.upcoming.fences) (subst (AreNextFlushes T) (sym c.as_slice-flushes.ensures.value) c.requires.upcoming.flushes)
    (c.is_any_fenced_first.ensures c.if-not-is_any_fenced_first.true))
