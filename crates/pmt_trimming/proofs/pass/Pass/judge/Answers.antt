use Rattle.std.proofs.Common.{◌≡◌, refl, sym, ap, ◌∙◌}
use Rattle.pmt_laws.specs.Prelude.{Stores, line_of, act_of}
use Rattle.pmt_trimming.proofs.PassingLemmas.{judged-assert}
use Rattle.pmt_trimming.proofs.pass.Pass.judge.Goals as goal

pub returns-in-Store-clause-follows : goal.returns-in-Store-clause-follows
returns-in-Store-clause-follows c = λ T before.
    let w = c.in-Store.store in
    let line : line_of T.format w.addr ≡ c.line_of.result = ap (λ f. line_of f w.addr) (sym before.format) ∙ ap (line_of c.args.self.now.format) (sym c.addr.ensures.value) ∙ sym c.line_of.ensures in
    c.judge_store.ensures.follows T c.args.event.now w (ap (act_of T.format c.args.event.now.thread) c.in-Store.is ∙ ap (λ l. Stores l w) line) before

pub returns-in-IsPersist-clause-follows : goal.returns-in-IsPersist-clause-follows
returns-in-IsPersist-clause-follows c = λ T before. judged-assert T c.args.event.now c.args.self.now _ (ap (act_of T.format c.args.event.now.thread) c.in-IsPersist.is) refl before

pub returns-in-IsOrderedBefore-clause-follows : goal.returns-in-IsOrderedBefore-clause-follows
returns-in-IsOrderedBefore-clause-follows c = λ T before. judged-assert T c.args.event.now c.args.self.now _ (ap (act_of T.format c.args.event.now.thread) c.in-IsOrderedBefore.is) refl before
