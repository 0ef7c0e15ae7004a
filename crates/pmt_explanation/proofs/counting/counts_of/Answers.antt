use Rattle.std.proofs.Common.{rules, ◌≡◌, ℕ, ◌<◌, Bool, List, false, get_or, take, refl, subst, ◌∙◌, arith}
use Rattle.std.proofs.lemmas.List.{get_or-replicate, take_all}
use Rattle.pmt_model.specs.declared.event.Event.{Event}
use Rattle.pmt_explanation.specs.Summing.{has_made}
use Rattle.pmt_explanation.proofs.CountingLemmas.{AreCounted, counted-more, seen-more, threads-counted}
use Rattle.pmt_explanation.proofs.counting.counts_of.Goals as goal

pub loop-event-init : goal.loop-event-init
loop-event-init c = record {
  counted = record { stores = refl; flushes = refl; fences = refl };
  few = omega arith;
  all = refl;
  each = λ t below. get_or-replicate 256 t false false below;
}

pub loop-event-preserved : goal.loop-event-preserved
loop-event-preserved c =
    let es : List Event = c.args.events.now in
    let i : ℕ = c.loop-event.event-index in
    let e : Event = c.event-item.result in
    let before = c.loop-event.invariant in
    record {
      counted = counted-more es i e e c.loop-event.counts c.add.new.self c.loop-event-test.true c.event-item.is before.counted c.add.ensures.stores c.add.ensures.flushes c.add.ensures.fences;
      few = omega (arith, before.few, c.add.ensures.one);
      all = search rules;
      each = seen-more es i e c.loop-event.seen c.loop-event-test.true c.event-item.is before.all before.each;
    }

pub returns : goal.returns
returns c =
    let es : List Event = c.args.events.now in
    let i : ℕ = c.loop-event.event-index in
    let seen : List Bool = c.loop-event.seen in
    let whole : take i es ≡ es = take_all i es c.loop-event-test.false in
    let counted : AreCounted es c.loop-event.counts = subst (λ (xs : List Event). AreCounted xs c.loop-event.counts) whole c.loop-event.invariant.counted in
    let each : (t : ℕ) → t < 256 → get_or seen t false ≡ has_made es t =
    subst (λ (xs : List Event). (t : ℕ) → t < 256 → get_or seen t false ≡ has_made xs t) whole c.loop-event.invariant.each in
    record {
      stores = counted.stores;
      flushes = counted.flushes;
      fences = counted.fences;
      threads = c.count_seen.ensures ∙ threads-counted es seen c.loop-event.invariant.all each;
    }
