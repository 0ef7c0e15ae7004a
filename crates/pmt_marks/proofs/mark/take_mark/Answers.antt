use Rattle.std.proofs.Common.{arith, ◌≡◌, Some, refl, sym, ap, subst, ◌∙◌}
use Rattle.std.proofs.lemmas.List.{get_or_default}
use Rattle.pmt_marks.specs.declared.mark.Mark.{Mark}
use Rattle.pmt_marks.specs.Lines.{IsPlaceOf, IsGapFor}
use Rattle.pmt_marks.proofs.MarkLemmas.{unmarked, mark_in-at, mark_in-gap, changes-remove, keeps-remove}
use Rattle.pmt_marks.proofs.mark.take_mark.Goals as goal
use Rattle.pmt_marks.proofs.mark.take_mark.Goals.{In-Ok, In-Err}

-- the place that was found is the thread's
at_place : (c : In-Ok) → IsPlaceOf c.args.thread c.args.marks.now.items c.in-Ok.place
at_place c =
    let read : c.as_slice.result.now ≡ c.args.marks.now.items = cc in
    subst (λ marks. IsPlaceOf c.args.thread marks c.in-Ok.place) read c.in-Ok.ensures.found

-- or the gap for its mark
in_gap : (c : In-Err) → IsGapFor c.args.thread c.args.marks.now.items c.in-Err.field-0
in_gap c =
    let read : c.as_slice.result.now ≡ c.args.marks.now.items = cc in
    subst (λ marks. IsGapFor c.args.thread marks c.in-Err.field-0) read c.in-Err.ensures.absent

pub returns-in-Ok-clause-value : goal.returns-in-Ok-clause-value
returns-in-Ok-clause-value c =
    let items = c.args.marks.now.items in
    let at = at_place (goal.at.returns-in-Ok-clause-value c).In-Ok in
    let read = get_or_default items c.in-Ok.place c.remove.result unmarked at.within in
    sym (mark_in-at c.args.thread items c.in-Ok.place c.requires at ∙ ap (λ (m : Mark). Some m.stores) (sym read ∙ sym c.remove.ensures.value))

pub returns-in-Ok-clause-taken : goal.returns-in-Ok-clause-taken
returns-in-Ok-clause-taken c =
    rw c.remove.ensures.items (changes-remove c.args.thread c.args.marks.now.items c.in-Ok.place c.requires (at_place (goal.at.returns-in-Ok-clause-taken c).In-Ok))

pub returns-in-Ok-clause-kept : goal.returns-in-Ok-clause-kept
returns-in-Ok-clause-kept c = λ limit.
    rw c.remove.ensures.items (keeps-remove limit c.args.thread c.args.marks.now.items c.in-Ok.place (at_place (goal.at.returns-in-Ok-clause-kept c).In-Ok))

pub returns-in-Err-clause-value : goal.returns-in-Err-clause-value
returns-in-Err-clause-value c = sym (mark_in-gap c.args.thread c.args.marks.now.items _ (in_gap (goal.at.returns-in-Err-clause-value c).In-Err))

pub returns-in-Err-clause-taken : goal.returns-in-Err-clause-taken
returns-in-Err-clause-taken c =
    record { mark = mark_in-gap c.args.thread c.args.marks.now.items _ (in_gap (goal.at.returns-in-Err-clause-taken c).In-Err); others = λ u other. refl }

pub search-requires : goal.search-requires
search-requires c = grind arith

pub remove-requires : goal.remove-requires
remove-requires c = grind arith
