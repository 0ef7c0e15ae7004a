use Rattle.std.proofs.Common.{◌≡◌, ◌<◌, ◌+◌, suc, length, Some, get_or, set, get_or-set_same, refl, ap, sym, subst, ◌∙◌, arith}
use Rattle.std.proofs.lemmas.Grind.{elements}
use Rattle.std.specs.Prelude.{slice_get, slice_index}
use Rattle.std.specs.List.Sorted.{IsNonDecreasingBy}
use Rattle.std.proofs.lemmas.List.{get_or-replicate, length-map, length-set}
use Rattle.std.proofs.lemmas.Option.{slice_get-get_or, slice_get_within}
use Rattle.pmt_explain.specs.Following.{TellsSafe}
use Rattle.pmt_causes.specs.Late.{counted, IsWaited, is_fence_of, late_items, with_spot, AreFencesBy}
use Rattle.pmt_causes.proofs.FenceLemmas.{passed-next, passed-now, passed-own, waited-told}
use Rattle.pmt_causes.proofs.LateLemmas.{items-next, items-set, waited-set}
use Rattle.pmt_causes.proofs.late.late_by.Goals as goal

pub loop-index-init : goal.loop-index-init
loop-index-init c = record {
  size = omega (arith, c.in_ok-waited.ensures.len, ap (λ xs. length xs) c.events-events.ensures.value);
  each = λ k n below is. absurd (omega arith);
  items = c.new-items.ensures.items;
  threads = refl;
  passed = λ t d small. get_or-replicate 256 t 0 d small;
}

pub list_of-list-requires : goal.list_of-list-requires
list_of-list-requires c = sym (length-map c.args.fences.now.items (λ list. list.items)) ∙ c.requires.fences.size

pub fences_of-count-requires-clause-order : goal.fences_of-count-requires-clause-order
fences_of-count-requires-clause-order c = subst (IsNonDecreasingBy (λ k. k)) (sym c.list_of-list.ensures.list) (c.requires.fences.each c.index-events-index.result.thread c.list_of-list.ensures.small).order

pub fences_of-count-requires-clause-passed : goal.fences_of-count-requires-clause-passed
fences_of-count-requires-clause-passed c =
    let T = c.args.trace.now in
    let es = c.events-events.result.now in
    let i = c.loop-index.index in
    let e = c.index-events-index.result in
    let list = c.list_of-list.result.now in
    let size : length c.events-events.result.now ≡ length T.events = ap (λ xs. length xs) c.events-events.ensures.value in
    let within : c.loop-index.index < length c.events-events.result.now = omega arith in
    let at : slice_get T.events i ≡ Some e = ap (λ xs. slice_get xs i) (sym c.events-events.ensures.value) ∙ slice_get-get_or es i e within ∙ ap Some (sym c.index-events-index.is) in
    let fences : AreFencesBy T e.thread (length T.events) list = subst (AreFencesBy T e.thread (length T.events)) (sym c.list_of-list.ensures.list) (c.requires.fences.each e.thread c.list_of-list.ensures.small) in
    let next : c.loop-index.index + 1 ≡ suc c.loop-index.index = omega arith in
    passed-own T i _ e list _ next at (omega (arith, size, within)) fences (c.loop-index.invariant.passed e.thread _ c.list_of-list.ensures.small)

pub loop-index-preserved : goal.loop-index-preserved
loop-index-preserved c =
    let T = c.args.trace.now in
    let labels = c.args.labels.now in
    let es = c.events-events.result.now in
    let waits = c.loop-index.waited.items in
    let i = c.loop-index.index in
    let e = c.index-events-index.result in
    let p = slice_index c.args.safe.now c.loop-index.index in
    let list = c.list_of-list.result.now in
    let n = c.fences_of-count.result in
    let size : length c.events-events.result.now ≡ length T.events = ap (λ xs. length xs) c.events-events.ensures.value in
    let within : c.loop-index.index < length c.events-events.result.now = omega arith in
    let at : slice_get T.events i ≡ Some e = ap (λ xs. slice_get xs i) (sym c.events-events.ensures.value) ∙ slice_get-get_or es i e within ∙ ap Some (sym c.index-events-index.is) in
    let inside : c.loop-index.index < length c.args.safe.now = omega (arith, size, c.requires.safe.size) in
    let room : c.loop-index.index < length c.loop-index.waited.items = omega (arith, size, c.loop-index.invariant.size) in
    let safe : TellsSafe T (suc i) p = c.requires.safe.each i p (slice_get-get_or c.args.safe.now i 0 inside) in
    let fences : AreFencesBy T e.thread (length T.events) list = subst (AreFencesBy T e.thread (length T.events)) (sym c.list_of-list.ensures.list) (c.requires.fences.each e.thread c.list_of-list.ensures.small) in
    let next : c.loop-index.index + 1 ≡ suc c.loop-index.index = omega arith in
    let told : IsWaited T (suc i) c.fences_of-count.result = subst (IsWaited T (suc i)) (sym c.fences_of-count.ensures.wait) (waited-told T i _ e p list next at safe fences) in
    let now = c.fences_of-count.ensures.passed ∙ passed-now T e.thread i _ list next (omega (arith, size, within)) fences in
    record {
      size = length-set waits i n ∙ c.loop-index.invariant.size;
      each = λ k m below is. waited-set T waits i k n m room told c.loop-index.invariant.each (omega arith) is;
      items = subst (λ m. c.push_spot.new.items.items ≡ late_items T labels (set waits i n) m) (sym next)
          (items-next T labels (set waits i n) i _ e c.format-format.result n c.loop-index.items.items c.push_spot.new.items.items next c.format-format.ensures.value at (sym (get_or-set_same waits i n 0 room))
          (c.in_ok-push_spot.ensures ∙ ap (λ s. with_spot (c.loop-index.index + 1) s c.loop-index.items.items) c.spot_of-spot.ensures)
          (c.loop-index.invariant.items ∙ sym (items-set T labels waits i n i (omega arith))));
      threads = length-set c.loop-index.passed e.thread c.fences_of-count.new.passed ∙ c.loop-index.invariant.threads;
      passed = λ u d small. subst (λ m. get_or (set c.loop-index.passed e.thread c.fences_of-count.new.passed) u d ≡ counted (is_fence_of T u) m) (sym next)
          (passed-next T i e c.loop-index.passed c.fences_of-count.new.passed u d at (omega (arith, c.list_of-list.ensures.small, c.loop-index.invariant.threads)) now c.loop-index.invariant.passed small);
    }

pub returns-clause-waited : goal.returns-clause-waited
returns-clause-waited c = record { size = c.loop-index.invariant.size; each = λ k n is. c.loop-index.invariant.each k n (omega (arith, slice_get_within c.loop-index.waited.items k n is, c.loop-index.invariant.size, ap (λ xs. length xs) c.events-events.ensures.value)) is }

pub returns-clause-items : goal.returns-clause-items
returns-clause-items c =
    let T = c.args.trace.now in
    let all : c.loop-index.index ≡ length T.events = omega (arith, ap (λ xs. length xs) c.events-events.ensures.value) in
    (c.loop-index.waited.items, returns-clause-waited c, subst (λ n. c.loop-index.items.items ≡ late_items T c.args.labels.now c.loop-index.waited.items n) all c.loop-index.invariant.items)

pub returns-in_err-waited-clause-waited : goal.returns-in_err-waited-clause-waited
returns-in_err-waited-clause-waited c = grind (arith, elements)

pub returns-in_err-waited-clause-items : goal.returns-in_err-waited-clause-items
returns-in_err-waited-clause-items c = grind (arith, elements)

pub offset_bounds-events-index : goal.offset_bounds-events-index
offset_bounds-events-index c = omega arith

pub bounds-events-index : goal.bounds-events-index
bounds-events-index c = grind (arith, elements)

pub overflow_add-number : goal.overflow_add-number
overflow_add-number c = grind (arith, elements)

pub overflow_cast-from : goal.overflow_cast-from
overflow_cast-from c = grind (arith, elements)

pub offset_bounds-passed-event : goal.offset_bounds-passed-event
offset_bounds-passed-event c = grind (arith, elements)

pub bounds-passed-event : goal.bounds-passed-event
bounds-passed-event c = grind (arith, elements)

pub offset_bounds-safe-index : goal.offset_bounds-safe-index
offset_bounds-safe-index c = omega arith

pub bounds-safe-index : goal.bounds-safe-index
bounds-safe-index c = grind (arith, elements)

pub index_mut-requires : goal.index_mut-requires
index_mut-requires c = grind (arith, elements)

pub returns-in_err-push_spot-clause-waited : goal.returns-in_err-push_spot-clause-waited
returns-in_err-push_spot-clause-waited c = grind (arith, elements)

pub returns-in_err-push_spot-clause-items : goal.returns-in_err-push_spot-clause-items
returns-in_err-push_spot-clause-items c = grind (arith, elements)

pub loop-index-smaller : goal.loop-index-smaller
loop-index-smaller c = grind (arith, elements)
