use Rattle.std.proofs.Common.{◌≡◌, ◌+◌, ◌<◌, ◌∷◌, ◌++◌, [], suc, length, get_or, Some, sym, ap, subst, ◌∙◌, arith}
use Rattle.std.proofs.lemmas.Option.{slice_get-get_or}
use Rattle.pmt_model.specs.Traces.{event}
use Rattle.pmt_asserts.specs.Tables.{AreAssertions}
use Rattle.pmt_asserts.proofs.VerdictLemmas.{assertions-skip, assertions-take}
use Rattle.pmt_asserts.proofs.judge.assertions.Goals as goal
use Rattle.pmt_asserts.proofs.judge.assertions.Goals.{then-is_assertion+in_ok-push, else-is_assertion}

pub loop-index-preserved : goal.loop-index-preserved
loop-index-preserved c =
    let T = c.args.trace.now in
    let n = c.loop-index.index in
    let ks = c.loop-index.numbers.items in
    let next : suc n ≡ n + 1 = omega arith in
    elim c.if-is_assertion.branch [
      | then-is_assertion+in_ok-push w ↦
          let items : c.if-is_assertion.numbers.items ≡ ks ++ suc n ∷ [] = cc (w.in_ok-push.ensures.items, w.numbers-is, next) in
          subst (AreAssertions T (n + 1)) (sym items) (subst (λ m. AreAssertions T m (ks ++ suc n ∷ [])) next (assertions-take T n ks c.loop-index.invariant))
      | else-is_assertion w ↦
          let items : c.if-is_assertion.numbers.items ≡ ks = cc (w.numbers-is) in
          let all = c.events-event-items.ensures.value in
          let read : get_or T.events n c.event-item.result ≡ c.event-item.result = subst (λ es. get_or es n c.event-item.result ≡ c.event-item.result) all (sym c.event-item.is) in
          let within : n < length T.events = subst (λ es. n < length es) all c.loop-index-test.true in
          let at : event T (suc n) ≡ Some c.event-item.result = slice_get-get_or T.events n c.event-item.result within ∙ ap Some read in
          subst (AreAssertions T (n + 1)) (sym items)
          (subst (λ m. AreAssertions T m ks) next (assertions-skip T n ks c.event-item.result at (sym c.is_assertion.ensures ∙ w.if-is_assertion.false) c.loop-index.invariant))
    ]
