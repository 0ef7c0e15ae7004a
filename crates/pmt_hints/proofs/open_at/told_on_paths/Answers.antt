use Rattle.std.proofs.Common.{sym, ap, subst, ◌∙◌}
use Rattle.std.proofs.lemmas.Bool.{eqb-true}
use Rattle.pmt_laws.specs.Prelude.{filter, IsRising}
use Rattle.pmt_hints.specs.Hints.{IsToldOnPath, IsToldOpen}
use Rattle.pmt_hints.specs.Contrasts.{AreClosed, told_so}
use Rattle.pmt_hints.proofs.PathLemmas.{none-same, on-paths}
use Rattle.pmt_hints.proofs.NumberLemmas.{none-those}
use Rattle.pmt_hints.proofs.OpenAtLemmas.{filter-rising}
use Rattle.pmt_hints.proofs.open_at.told_on_paths.Goals as goal

pub selection_of-requires : goal.selection_of-requires
selection_of-requires c = subst (λ ks. IsRising 0 ks) (sym c.new.ensures.items) tt

pub returns-then-are_same : goal.returns-then-are_same
returns-then-are_same c = none-same c.args.trace.now c.args.labels.now c.args.paths.now _ (c.are_same.ensures c.if-are_same.true) (c.selection_of.ensures ∙ c.new.ensures.items)

pub returns-then-is_empty : goal.returns-then-is_empty
returns-then-is_empty c =
    let P = IsToldOpen c.args.trace.now c.args.paths.now in
    none-those P (IsToldOnPath c.args.trace.now c.args.labels.now c.args.paths.now) c.in_ok-told.told c.in_ok-told.ensures (eqb-true _ _ (sym c.is_empty.ensures ∙ c.if-is_empty.true)) (λ i h. h.0)

pub selection_of-requires-2 : goal.selection_of-requires-2
selection_of-requires-2 c =
    let P = told_so c.args.trace.now c.args.labels.now c.in_ok-closed.closed in
    subst (λ ks. IsRising 0 ks) (sym (c.in_ok-partly.ensures ∙ ap (filter P) c.numbers-2.ensures.value)) (filter-rising P 0 c.in_ok-told.told c.in_ok-told.ensures.rising)

pub returns : goal.returns
returns c =
    let T = c.args.trace.now in
    let labels = c.args.labels.now in
    let closed : AreClosed T labels c.in_ok-whole.whole c.in_ok-closed.closed = subst (λ ks. AreClosed T labels ks c.in_ok-closed.closed) c.numbers.ensures.value c.in_ok-closed.ensures in
    on-paths T labels c.args.paths.now c.in_ok-told.told c.in_ok-whole.whole c.in_ok-closed.closed c.in_ok-told.ensures c.in_ok-whole.ensures closed c.selection_of-2.result
    (c.selection_of-2.ensures ∙ c.in_ok-partly.ensures ∙ ap (filter (told_so T labels c.in_ok-closed.closed)) c.numbers-2.ensures.value)
