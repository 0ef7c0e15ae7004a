use Rattle.std.proofs.Common.{suc, inl, inr, subst, refl}
use Rattle.pmt_model.specs.Traces.{IsAct, act_of}
use Rattle.pmt_explain.proofs.BehindLemmas.{behind-store, behind-flush, behind-clflush, behind-fence, behind-assert}
use Rattle.pmt_explain.proofs.behind.Behind.go_on.Goals as goal

pub returns-in-Store : goal.returns-in-Store
returns-in-Store c = λ T n is number next safe before.
    behind-store T n _ c.args.flush c.args.place _ c.args.self.now _ (subst (λ o. IsAct T (suc n) (act_of T.format c.args.thread o)) c.in-Store.is is) next safe before c.set_place.ensures refl

pub returns-in-Clflush : goal.returns-in-Clflush
returns-in-Clflush c = λ T n is number next safe before.
    behind-clflush T n _ c.args.number c.args.flush c.args.self.now _ (subst (λ o. IsAct T (suc n) (act_of T.format c.args.thread o)) c.in-Clflush.is is) number next before c.pass_on.ensures refl

pub returns-in-Clwb : goal.returns-in-Clwb
returns-in-Clwb c = λ T n is number next safe before. elim c.in-Clwb.is [
  | inl x ↦ behind-flush T n c.args.thread _ c.args.number c.args.flush c.args.self.now _ (subst (λ o. IsAct T (suc n) (act_of T.format c.args.thread o)) x.1 is) number next before c.pass_on-in-Clwb.ensures refl
  | inr x ↦ behind-flush T n c.args.thread _ c.args.number c.args.flush c.args.self.now _ (subst (λ o. IsAct T (suc n) (act_of T.format c.args.thread o)) x.1 is) number next before c.pass_on-in-Clwb.ensures refl
]

pub returns-in-Sfence : goal.returns-in-Sfence
returns-in-Sfence c = λ T n is number next safe before. elim c.in-Sfence.is [
  | inl x ↦ behind-fence T n c.args.thread c.args.self.now _ (subst (λ o. IsAct T (suc n) (act_of T.format c.args.thread o)) x is) before refl refl
  | inr x ↦ behind-fence T n c.args.thread c.args.self.now _ (subst (λ o. IsAct T (suc n) (act_of T.format c.args.thread o)) x is) before refl refl
]

pub returns-in-IsPersist : goal.returns-in-IsPersist
returns-in-IsPersist c = λ T n is number next safe before. elim c.in-IsPersist.is [
  | inl x ↦ behind-assert T n c.args.self.now (subst (λ o. IsAct T (suc n) (act_of T.format c.args.thread o)) x.1 is) before
  | inr x ↦ behind-assert T n c.args.self.now (subst (λ o. IsAct T (suc n) (act_of T.format c.args.thread o)) x.2 is) before
]
