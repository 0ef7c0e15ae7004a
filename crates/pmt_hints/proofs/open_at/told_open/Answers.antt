use Rattle.std.proofs.Common.{sym, subst, ◌∙◌}
use Rattle.std.proofs.lemmas.Bool.{eqb-true}
use Rattle.pmt_model.specs.Selections.{IsRising}
use Rattle.pmt_hints.specs.Hints.{AreClaimedStores, AreThose, IsOpenThroughout, IsToldOpen}
use Rattle.pmt_hints.specs.Contrasts.{AreClosed, told_so}
use Rattle.pmt_hints.proofs.ClaimLemmas.{unexcused-those}
use Rattle.pmt_hints.proofs.NumberLemmas.{none-those}
use Rattle.pmt_hints.proofs.OpenAtLemmas.{filter-rising}
use Rattle.pmt_hints.proofs.open_at.told_open.Goals as goal

pub returns-then-is_empty : goal.returns-then-is_empty
returns-then-is_empty c =
    let P = IsOpenThroughout c.args.trace.now c.args.labels.now in
    none-those P (IsToldOpen c.args.trace.now c.args.labels.now) c.in_ok-open.open c.in_ok-open.ensures (eqb-true _ _ (sym c.is_empty.ensures ∙ c.if-is_empty.true)) (λ i h. h.throughout)

pub excused_flushes-requires-clause-claimed : goal.excused_flushes-requires-clause-claimed
excused_flushes-requires-clause-claimed c = subst (AreClaimedStores c.args.trace.now) (sym c.as_slice.ensures.value) c.in_ok-claimed.ensures

pub selection_of-requires : goal.selection_of-requires
selection_of-requires c =
    let P = told_so c.args.trace.now c.args.labels.now c.in_ok-closed.closed in
    subst (λ ks. IsRising 0 ks) (sym c.in_ok-told.ensures) (filter-rising P 0 c.numbers-flushes.result.now (subst (λ ks. IsRising 0 ks) (sym c.numbers-flushes.ensures.value) c.numbers-flushes.ensures.rising))

pub returns : goal.returns
returns c =
    let T = c.args.trace.now in
    let labels = c.args.labels.now in
    let closed = c.in_ok-closed.closed in
    unexcused-those T labels c.numbers-flushes.result.now c.in_ok-excused.excused.items closed (subst (AreThose (IsOpenThroughout T labels)) (sym c.numbers-flushes.ensures.value) c.in_ok-open.ensures) c.in_ok-excused.ensures
    (subst (λ ks. AreClosed T labels ks closed) c.as_slice-2.ensures.value c.in_ok-closed.ensures) c.selection_of.result (c.selection_of.ensures ∙ c.in_ok-told.ensures)
