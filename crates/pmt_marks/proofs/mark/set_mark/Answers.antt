use Rattle.std.proofs.Common.{arith, ◌≡◌, Some, length, set, sym, ap, subst, ◌∙◌}
use Rattle.std.proofs.lemmas.List.{length-set}
use Rattle.pmt_marks.specs.Lines.{ChangesMark, KeepsMarks, IsPlaceOf, IsGapFor}
use Rattle.pmt_marks.proofs.MarkLemmas.{refill-all, mark_in-gap, changes-set, keeps-set, changes-insert, keeps-insert}
use Rattle.pmt_marks.proofs.mark.set_mark.Goals as goal
use Rattle.pmt_marks.proofs.mark.set_mark.Goals.{In-Ok, In-Err}

-- the place that was found is the thread's
at_place : (c : In-Ok) → IsPlaceOf c.args.mark.thread c.args.marks.now.items c.in-Ok.place
at_place c =
    let read : c.as_slice.result.now ≡ c.args.marks.now.items = cc in
    subst (λ marks. IsPlaceOf c.args.mark.thread marks c.in-Ok.place) read c.in-Ok.ensures.found

-- or the gap for its mark
in_gap : (c : In-Err) → IsGapFor c.args.mark.thread c.args.marks.now.items c.in-Err.place
in_gap c =
    let read : c.as_slice.result.now ≡ c.args.marks.now.items = cc in
    subst (λ marks. IsGapFor c.args.mark.thread marks c.in-Err.place) read c.in-Err.ensures.absent

pub returns-in_err-insert-in-Err-clause-again : goal.returns-in_err-insert-in-Err-clause-again
returns-in_err-insert-in-Err-clause-again c =
    let gap = in_gap (goal.at.returns-in_err-insert-in-Err-clause-again c).In-Err in
    λ some. let none = mark_in-gap c.args.mark.thread c.args.marks.now.items _ gap in let never = rw none at some in cc

pub returns-in-Ok-clause-ok : goal.returns-in-Ok-clause-ok
returns-in-Ok-clause-ok c =
    let items = c.args.marks.now.items in
    let new = set c.deref_mut.result.now c.in-Ok.place c.args.mark in
    let read : c.deref_mut.result.now ≡ items = cc in
    let as_long : length new ≡ length items = length-set c.deref_mut.result.now c.in-Ok.place c.args.mark ∙ ap (λ marks. length marks) read in
    subst (ChangesMark c.args.mark.thread (Some c.args.mark.stores) items) (sym (refill-all items new as_long ∙ ap (λ marks. set marks c.in-Ok.place c.args.mark) read))
    (changes-set c.args.mark items c.in-Ok.place c.requires (at_place (goal.at.returns-in-Ok-clause-ok c).In-Ok))

pub returns-in-Ok-clause-kept : goal.returns-in-Ok-clause-kept
returns-in-Ok-clause-kept c = λ limit h.
    let items = c.args.marks.now.items in
    let new = set c.deref_mut.result.now c.in-Ok.place c.args.mark in
    let read : c.deref_mut.result.now ≡ items = cc in
    let as_long : length new ≡ length items = length-set c.deref_mut.result.now c.in-Ok.place c.args.mark ∙ ap (λ marks. length marks) read in
    subst (KeepsMarks limit items) (sym (refill-all items new as_long ∙ ap (λ marks. set marks c.in-Ok.place c.args.mark) read))
    (keeps-set c.args.mark items c.in-Ok.place c.requires (at_place (goal.at.returns-in-Ok-clause-kept c).In-Ok) limit h)

pub returns-in_ok-insert-in-Err-clause-ok : goal.returns-in_ok-insert-in-Err-clause-ok
returns-in_ok-insert-in-Err-clause-ok c =
    let inserted = c.in_ok-insert-in-Err.ensures in
    rw inserted.ok (changes-insert c.args.mark c.args.marks.now.items c.in-Err.place (in_gap (goal.at.returns-in_ok-insert-in-Err-clause-ok c).In-Err))

pub returns-in_ok-insert-in-Err-clause-kept : goal.returns-in_ok-insert-in-Err-clause-kept
returns-in_ok-insert-in-Err-clause-kept c = λ limit h.
    let inserted = c.in_ok-insert-in-Err.ensures in
    rw inserted.ok (keeps-insert c.args.mark c.args.marks.now.items c.in-Err.place (in_gap (goal.at.returns-in_ok-insert-in-Err-clause-kept c).In-Err) limit h)

pub returns-in_err-insert-in-Err-clause-kept : goal.returns-in_err-insert-in-Err-clause-kept
returns-in_err-insert-in-Err-clause-kept c = grind arith
