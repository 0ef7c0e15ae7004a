use Rattle.pmt_slices.proofs.Prelude.{◌≡◌, ◌+◌, ◌<◌, ◌≤◌, ◌⊎◌, suc, length, Some, sym, ap, subst, ◌∙◌, arith, slice_get, slice_get-get_or, event, IsChosen, Chooses, turn_of}
use Rattle.pmt_slices.specs.declared.store_story.Turn.TheVariants as turn
use Rattle.pmt_slices.proofs.StoreStoryLemmas.{IsOtherBy, NoStop, chooses-over, stop-over, other-here, chooses-here, chooses-all, chooses-stop}
use Rattle.pmt_slices.proofs.store_story.choose_all.Goals as goal

pub returns-in-Stop : goal.returns-in-Stop
returns-in-Stop c =
    let T = c.args.trace.now in
    let es = c.events-events.result.now in
    let i = c.loop-index.index in
    let e = c.index-events-index.result in
    let inside : i < length es = omega arith in
    let is : event T (suc i) ≡ Some e = ap (λ xs. slice_get xs i) (sym c.events-events.ensures.value) ∙ slice_get-get_or es i e inside ∙ ap Some (sym c.index-events-index.is) in
    let what : turn_of T.format c.args.line e.op ≡ turn.Stop = ap (λ f. turn_of f c.args.line e.op) (sym c.format-format.ensures.value) ∙ sym c.turn_of.ensures ∙ c.in-Stop.is in
    chooses-stop T c.args.thread c.args.line c.args.number i c.args.chosen.now c.loop-index.chosen (e, is, c.if-event-thread.true, what) c.loop-index.invariant.low c.loop-index.invariant.chosen

pub loop-index-preserved : goal.loop-index-preserved
loop-index-preserved c =
    let T = c.args.trace.now in
    let t = c.args.thread in
    let l = c.args.line in
    let j = c.args.number in
    let es = c.events-events.result.now in
    let i = c.loop-index.index in
    let e = c.index-events-index.result in
    let old = c.args.chosen.now in
    let before = c.loop-index.chosen in
    let inside : i < length es = omega arith in
    let is : event T (suc i) ≡ Some e = ap (λ xs. slice_get xs i) (sym c.events-events.ensures.value) ∙ slice_get-get_or es i e inside ∙ ap Some (sym c.index-events-index.is) in
    let place : suc i ≡ i + 1 = omega arith in
    let known = c.loop-index.invariant in
    elim c.if-event-thread.branch [
      | goal.then-event-thread+in-Nothing w ↦
          let what : turn_of T.format l e.op ≡ turn.Nothing = ap (λ f. turn_of f l e.op) (sym c.format-format.ensures.value) ∙ sym w.turn_of.ensures ∙ w.in-Nothing.is in
          record {
            low = omega (arith, known.low);
            none = subst (NoStop T t l j) place (stop-over T t l j i e is (λ same stop. let apart : turn.Nothing ≡ turn.Stop = sym what ∙ stop in cc) known.none);
            chosen = subst (Chooses (IsOtherBy T t l j (i + 1)) old) (sym w.chosen-is) (subst (λ m. Chooses (IsOtherBy T t l j m) old before) place (chooses-over T t l j i e old before is (λ same. what) known.chosen));
          }
      | goal.then-event-thread+in-Other w ↦
          let what : turn_of T.format l e.op ≡ turn.Other = ap (λ f. turn_of f l e.op) (sym c.format-format.ensures.value) ∙ sym w.turn_of.ensures ∙ w.in-Other.is in
          let here = other-here T t l j i e is w.if-event-thread.true what known.low known.none in
          let new = w.choose.new.chosen in
          record {
            low = omega (arith, known.low);
            none = subst (NoStop T t l j) place (stop-over T t l j i e is (λ same stop. let apart : turn.Other ≡ turn.Stop = sym what ∙ stop in cc) known.none);
            chosen = subst (Chooses (IsOtherBy T t l j (i + 1)) old) (sym w.chosen-is)
                (subst (λ m. Chooses (IsOtherBy T t l j m) old new) place
                (chooses-here T t l j i old before new here known.chosen w.choose.ensures.size w.choose.ensures.stays
                (λ within. subst (λ m. IsChosen new m) (sym place) (w.choose.ensures.own (omega arith) (omega (arith, within)))) (λ k x. subst (λ m. IsChosen before k ⊎ (k ≡ m)) (sym place) (w.choose.ensures.just k x))));
          }
      | goal.else-event-thread w ↦
          record {
            low = omega (arith, known.low);
            none = subst (NoStop T t l j) place (stop-over T t l j i e is (λ same. absurd (w.if-event-thread.false same)) known.none);
            chosen = subst (Chooses (IsOtherBy T t l j (i + 1)) old) (sym w.chosen-is)
                (subst (λ m. Chooses (IsOtherBy T t l j m) old before) place (chooses-over T t l j i e old before is (λ same. absurd (w.if-event-thread.false same)) known.chosen));
          }
    ]

pub returns : goal.returns
returns c =
    let T = c.args.trace.now in
    let all : length T.events ≤ c.loop-index.index = omega (arith, c.loop-index-test.false, ap (λ xs. length xs) c.events-events.ensures.value) in
    chooses-all T c.args.thread c.args.line c.args.number c.loop-index.index c.args.chosen.now c.loop-index.chosen all c.loop-index.invariant.chosen
