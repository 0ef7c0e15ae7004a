use Rattle.std.proofs.Common.{◌≡◌, [], sym, subst, ◌∙◌}
use Rattle.pmt_hints.specs.Contrasts.{StoresWhenClear}
use Rattle.pmt_hints.specs.Hints.{AreThose, IsStoredAfterFlush}
use Rattle.pmt_hints.proofs.LeftLemmas.{none-unsafe}
use Rattle.pmt_hints.proofs.WaitingLemmas.{none-stored}
use Rattle.pmt_hints.proofs.stored_after.stored_after_flush.Goals as goal

pub returns-then-not-is_any_left : goal.returns-then-not-is_any_left
returns-then-not-is_any_left c =
    let T = c.args.safe.now.trace.now in
    let is : c.selection_of.result ≡ [] = c.selection_of.ensures ∙ c.new.ensures.items in
    subst (AreThose (IsStoredAfterFlush T)) (sym is) (none-unsafe T c.places.result.now c.args.waited.now c.places.ensures c.requires.waited (c.is_any_left.ensures c.if-not-is_any_left.true))

pub returns-then-not-has_store_while_open : goal.returns-then-not-has_store_while_open
returns-then-not-has_store_while_open c =
    let T = c.args.safe.now.trace.now in
    let is : c.selection_of-then-not-has_store_while_open.result ≡ [] = c.selection_of-then-not-has_store_while_open.ensures ∙ c.new-then-not-has_store_while_open.ensures.items in
    let own : c.trace-trace.result.now ≡ T = c.trace-trace.ensures in
    subst (AreThose (IsStoredAfterFlush T)) (sym is) (none-stored T (subst StoresWhenClear own (c.has_store_while_open.ensures c.if-not-has_store_while_open.true)))
