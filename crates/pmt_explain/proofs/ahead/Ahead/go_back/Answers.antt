use Rattle.std.proofs.Common.{◌≡◌, ◌∙◌, suc, sym, ap, subst, arith}
use Rattle.std.proofs.lemmas.Grind.{elements}
use Rattle.pmt_laws.specs.Prelude.{line_of, Stores, IsAct, act_of}
use Rattle.pmt_explain.proofs.FollowingLemmas.{ahead-store, ahead-assert}
use Rattle.pmt_explain.proofs.SavingLemmas.{safe-at}
use Rattle.pmt_explain.proofs.ahead.Ahead.go_back.Goals as goal

pub returns-in-Sfence-clause-ahead : goal.returns-in-Sfence-clause-ahead
returns-in-Sfence-clause-ahead c = λ T n is. c.over_fence.ensures T n (subst (λ o. IsAct T (suc n) (act_of c.args.format c.args.thread o)) c.in-Sfence.is is)

pub returns-in-Mfence-clause-ahead : goal.returns-in-Mfence-clause-ahead
returns-in-Mfence-clause-ahead c = λ T n is. c.over_fence-in-Mfence.ensures T n (subst (λ o. IsAct T (suc n) (act_of c.args.format c.args.thread o)) c.in-Mfence.is is)

pub returns-in-Store-clause-ahead : goal.returns-in-Store-clause-ahead
returns-in-Store-clause-ahead c = λ T n is number before. ahead-store T n c.args.self.now _ _ (subst (λ o. IsAct T (suc n) (act_of c.args.format c.args.thread o)) c.in-Store.is is) before

pub returns-in-IsPersist-clause-ahead : goal.returns-in-IsPersist-clause-ahead
returns-in-IsPersist-clause-ahead c = λ T n is number before. ahead-assert T n c.args.self.now (subst (λ o. IsAct T (suc n) (act_of c.args.format c.args.thread o)) c.in-IsPersist.is is) before

pub returns-in-IsOrderedBefore-clause-ahead : goal.returns-in-IsOrderedBefore-clause-ahead
returns-in-IsOrderedBefore-clause-ahead c = λ T n is number before. ahead-assert T n c.args.self.now (subst (λ o. IsAct T (suc n) (act_of c.args.format c.args.thread o)) c.in-IsOrderedBefore.is is) before

pub returns-in-Store-clause-safe : goal.returns-in-Store-clause-safe
returns-in-Store-clause-safe c = λ T n is before.
    let line : line_of c.args.format c.in-Store.store.addr ≡ c.line_of-in-Store.result = ap (line_of c.args.format) (sym c.addr.ensures.value) ∙ sym c.line_of-in-Store.ensures in
    let at : IsAct T (suc n) (Stores (line_of c.args.format c.in-Store.store.addr) c.in-Store.store) = subst (λ o. IsAct T (suc n) (act_of c.args.format c.args.thread o)) c.in-Store.is is in
    let own : IsAct T (suc n) (Stores c.line_of-in-Store.result c.in-Store.store) = subst (λ k. IsAct T (suc n) (Stores k c.in-Store.store)) line at in
    safe-at T (suc n) c.line_of-in-Store.result c.over_store.result c.in-Store.store own (c.over_store.ensures T n c.in-Store.store own before)

pub returns-in-ClflushOpt-clause-safe : goal.returns-in-ClflushOpt-clause-safe
returns-in-ClflushOpt-clause-safe c = grind (arith, elements)

pub returns-in-ClflushOpt-clause-ahead : goal.returns-in-ClflushOpt-clause-ahead
returns-in-ClflushOpt-clause-ahead c = grind (arith, elements)

pub returns-in-Clflush-clause-safe : goal.returns-in-Clflush-clause-safe
returns-in-Clflush-clause-safe c = grind (arith, elements)

pub returns-in-Clflush-clause-ahead : goal.returns-in-Clflush-clause-ahead
returns-in-Clflush-clause-ahead c = grind (arith, elements)
