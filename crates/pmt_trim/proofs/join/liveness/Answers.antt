use Rattle.std.proofs.Common.{◌≡◌, ℕ, length, [], get_or, map, take, Vec, Global, refl, sym, ap, subst, ◌∙◌, arith}
use Rattle.std.proofs.lemmas.List.{get_or-map, take_all, length-map}
use Rattle.pmt_laws.specs.Prelude.{Event, Has, history, lines_of}
use Rattle.pmt_trim.specs.Marking.{op_stays}
use Rattle.pmt_trim.proofs.JoinLemmas.{MarksLists, marks-no_lists, marks-list, kept-at, kept-for_within, stay_marks, joined-answer}
use Rattle.pmt_trim.proofs.join.liveness.Goals as goal

pub loop-list-init : goal.loop-list-init
loop-list-init c = record { size = refl; marks = marks-no_lists c.as_mut_slice-marked.result.now }

pub loop-list-preserved : goal.loop-list-preserved
loop-list-preserved c =
    let items = λ (kept : Vec ℕ Global). kept.items in
    let at : get_or (map items c.args.lists.now) c.loop-list.list-index [] ≡ c.as_slice.result.now =
    get_or-map items c.args.lists.now c.loop-list.list-index c.list-item.result [] c.loop-list-test.true ∙ ap items (sym c.list-item.is) ∙ sym c.as_slice.ensures.value in
    record {
      size = c.mark_all.auto.marked ∙ c.loop-list.invariant.size;
      marks = marks-list c.as_mut_slice-marked.result.now c.loop-list.marked c.mark_all.new.marked (map items c.args.lists.now) c.loop-list.list-index c.as_slice.result.now
          (omega (arith, length-map c.args.lists.now items, c.loop-list-test.true)) at c.loop-list.invariant.marks c.mark_all.ensures;
    }

pub mark_all-requires : goal.mark_all-requires
mark_all-requires c = λ n has.
    let items = λ (kept : Vec ℕ Global). kept.items in
    let T = c.args.trace.now in
    let at : get_or (map items c.args.lists.now) c.loop-list.list-index [] ≡ c.as_slice.result.now =
    get_or-map items c.args.lists.now c.loop-list.list-index c.list-item.result [] c.loop-list-test.true ∙ ap items (sym c.list-item.is) ∙ sym c.as_slice.ensures.value in
    let line = kept-at T (lines_of (history T (length T.events))) (map items c.args.lists.now) c.loop-list.list-index c.requires
    (omega (arith, length-map c.args.lists.now items, c.loop-list-test.true)) in
    let range = kept-for_within T line.0 n ((line.1.just n).0 (subst (λ ks. Has ks n) (sym at) has)) in
    let marks : c.as_mut_slice-marked.result.now ≡ map (λ (e : Event). op_stays e.op) T.events = c.as_mut_slice-marked.ensures.value ∙ c.in_ok-marks.ensures ∙ ap (map (λ (e : Event). op_stays e.op)) c.events.ensures.value in
    let same : length c.as_mut_slice-marked.result.now ≡ length T.events = ap length marks ∙ length-map T.events (λ (e : Event). op_stays e.op) in
    (range.0, omega (arith, range.1, same, c.loop-list.invariant.size))

pub returns : goal.returns
returns c =
    let items = λ (kept : Vec ℕ Global). kept.items in
    let T = c.args.trace.now in
    let marks : c.as_mut_slice-marked.result.now ≡ map (λ (e : Event). op_stays e.op) T.events = c.as_mut_slice-marked.ensures.value ∙ c.in_ok-marks.ensures ∙ ap (map (λ (e : Event). op_stays e.op)) c.events.ensures.value in
    let all : take c.loop-list.list-index (map items c.args.lists.now) ≡ map items c.args.lists.now = take_all c.loop-list.list-index (map items c.args.lists.now)
    (omega (arith, length-map c.args.lists.now items, c.loop-list-test.false)) in
    let marked : MarksLists (stay_marks T) (map items c.args.lists.now) c.loop-list.marked =
    subst (λ s. MarksLists s (map items c.args.lists.now) c.loop-list.marked) marks
    (subst (λ ks. MarksLists c.as_mut_slice-marked.result.now ks c.loop-list.marked) all c.loop-list.invariant.marks) in
    joined-answer T (map items c.args.lists.now) c.loop-list.marked c.marked_numbers.result c.requires marked c.marked_numbers.ensures.rising c.marked_numbers.ensures.just
