use Rattle.std.proofs.Common.{refl, sym, subst, ℕ, List, [], ◌∷◌, ◌++◌}
use Rattle.pmt_trimming.specs.Streaming.{HaveLeft}
use Rattle.pmt_trimming.proofs.StreamLemmas.{left-next, lines-more}
use Rattle.pmt_trimming.proofs.whole_text.Whole.take.Goals as goal

pub take-requires-clause-passing : goal.take-requires-clause-passing
take-requires-clause-passing c = (c.requires.whole.0, c.requires.whole.1.pass)

pub returns : goal.returns
returns c = λ T is.
    let e = c.args.event.now in
    let took = c.in_ok-take.ensures in
    record {
      pass = took.follows T is.pass;
      waiting = is.waiting ++ e ∷ [];
      lines = lines-more is.waiting (e ∷ []) _ _ is.lines c.in_ok-hold.ensures.lines;
      left = left-next T (e ∷ []) _ _ _ is.waiting _ _ took.settled refl is.pass.before is.pass.all (subst (λ (bytes : List ℕ). HaveLeft T c.args.self.now.pass.settled is.waiting bytes) (sym c.in_ok-hold.ensures.text) is.left);
    }
