use Rattle.std.proofs.Common.{◌≡◌, ℕ, length, sym, ap, subst, ◌∙◌, arith}
use Rattle.std.specs.Prelude.{not}
use Rattle.std.specs.List.{filter}
use Rattle.std.proofs.lemmas.Bool.{eqb-true}
use Rattle.pmt_tables.specs.Flags.{is_kept_at}
use Rattle.pmt_hints.specs.Hints.{AreThose, IsStoredAfterMark}
use Rattle.pmt_hints.proofs.MarkingLemmas.{after-others, none-after, none-marked}
use Rattle.pmt_hints.proofs.after_mark.stored_after_mark.Goals as goal

pub returns-then-not-has_mark : goal.returns-then-not-has_mark
returns-then-not-has_mark c =
    none-marked c.args.trace.now c.args.labels.now c.in_ok-marks.marks.items c.as_slice.result.now _ c.in_ok-marks.ensures c.as_slice.ensures.value (sym c.has_mark.ensures ∙ c.if-not-has_mark.true) (c.selection_of.ensures ∙ c.new.ensures.items)

pub returns-then-is_empty : goal.returns-then-is_empty
returns-then-is_empty c =
    let numbers = c.in_ok-numbers.numbers in
    let none : length numbers.items ≡ 0 = omega (arith, eqb-true _ _ (sym c.is_empty.ensures ∙ c.if-is_empty.true), numbers.ok.0) in
    subst (AreThose (IsStoredAfterMark c.args.trace.now c.args.labels.now)) (sym c.selection_of-then-is_empty.ensures) (none-after c.args.trace.now c.args.labels.now numbers.items c.in_ok-numbers.ensures none)

pub selection_of-requires-2 : goal.selection_of-requires-2
selection_of-requires-2 c = (after-others c.args.trace.now c.args.labels.now c.in_ok-firsts.firsts.items c.in_ok-numbers.numbers.items _ c.in_ok-numbers.ensures c.in_ok-firsts.ensures
    (c.in_ok-others.ensures ∙ ap (λ bs. filter (λ (i : ℕ). not (is_kept_at bs i)) c.as_slice-3.result.now) c.as_slice-4.ensures.value ∙ ap (filter (λ (i : ℕ). not (is_kept_at c.in_ok-firsts.firsts.items i))) c.as_slice-3.ensures.value)).rising

pub returns : goal.returns
returns c = subst (AreThose (IsStoredAfterMark c.args.trace.now c.args.labels.now)) (sym c.selection_of-2.ensures)
    (after-others c.args.trace.now c.args.labels.now c.in_ok-firsts.firsts.items c.in_ok-numbers.numbers.items _ c.in_ok-numbers.ensures c.in_ok-firsts.ensures
    (c.in_ok-others.ensures ∙ ap (λ bs. filter (λ (i : ℕ). not (is_kept_at bs i)) c.as_slice-3.result.now) c.as_slice-4.ensures.value ∙ ap (filter (λ (i : ℕ). not (is_kept_at c.in_ok-firsts.firsts.items i))) c.as_slice-3.ensures.value))
