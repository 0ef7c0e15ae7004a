-- What is left to compare, one event on.
use Rattle.std.proofs.Common.{◌≡◌, ℕ, suc, ◌+◌, ◌<◌, length, drop, get_or, refl, ap, sym, subst, ◌∙◌, arith, rules}
use Rattle.std.proofs.Math.ListN.{length-set}
use Rattle.pmt_recorder.specs.Strips.{entries_of, IsPlaceOf}
use Rattle.pmt_recorder.proofs.PlaceLemmas.{next_entry, all_entries, part-ended, few-taken, rest-taken}
use Rattle.pmt_recorder.proofs.seal.are_parts.Goals as goal

pub loop-event-init : goal.loop-event-init
loop-event-init g c = record {
  size = search rules;
  count = refl;
  few = λ t. omega (arith, c.zeros-next.ensures t);
  rest = λ t h e. e ∙ ap (λ (k : ℕ). drop k (entries_of t c.args.tapes.now)) (c.zeros-next.ensures t);
}

pub loop-event-preserved : goal.loop-event-preserved
loop-event-preserved g c =
    let l = c.loop-event in
    let u = c.thread_of-thread.result in
    let inside : u < length l.next = omega (arith, l.invariant.size, c.thread_of-thread.ensures.small) in
    let strips = c.args.tapes.now in
    let entry = λ (t : ℕ) (h : t < length strips) (same : t ≡ u).
    next_entry t (get_or c.places_of-places.result u 0) (get_or l.next u 0) (l.number + 1) c.event-item.result.op strips
    (subst (λ (k : ℕ). IsPlaceOf t strips (get_or c.places_of-places.result k 0)) same (c.places_of-places.ensures t h)) (c.has_entry.ensures c.if-not-has_entry.false) in
    let number : l.number + 1 ≡ suc l.event-index = omega (arith, l.invariant.count) in
    record {
      size = length-set l.next u _ ∙ l.invariant.size;
      count = omega (arith, l.invariant.count);
      few = λ t. few-taken t u l.event-index l.next inside (l.invariant.few t);
      rest = λ t h later. l.invariant.rest t h
          (rest-taken t u l.event-index l.next inside c.args.events.now c.event-item.result (entries_of t c.args.tapes.now) (l.number + 1) (omega arith) c.event-item.is
          (sym c.thread_of-thread.ensures.value) number (entry t h) later);
    }

pub returns : goal.returns
returns g c = λ all t h.
    c.loop-event.invariant.rest t h
    (part-ended _ t _ c.args.events.now c.loop-event.event-index _ (omega arith) (all_entries t _ _ c.args.tapes.now (c.places_of-places.ensures t h) (c.have_lengths.ensures all t h)))
