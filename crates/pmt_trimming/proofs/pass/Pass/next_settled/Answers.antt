use Rattle.std.proofs.Common.{arith, refl, sym, ◌∙◌}
use Rattle.std.proofs.lemmas.Grind.{elements}
use Rattle.pmt_trimming.proofs.SettlingLemmas.{first-is, settles-none, settles-some, passing-less}
use Rattle.pmt_trimming.proofs.pass.Pass.next_settled.Goals as goal

pub returns-in-Some-clause-passing : goal.returns-in-Some-clause-passing
returns-in-Some-clause-passing c = λ T before.
    let is = first-is c.args.self.now.marks.items c.in_ok-first.field-0 c.in_ok-first.ensures in
    passing-less T c.args.self.now _ c.in_ok-first.field-0 c.in-Some.kept is.0 is.1 (sym c.decision.ensures ∙ c.in-Some.is) before refl refl refl c.pop.ensures refl

pub returns-in-Some-clause-settles : goal.returns-in-Some-clause-settles
returns-in-Some-clause-settles c = λ T before.
    let is = first-is c.args.self.now.marks.items c.in_ok-first.field-0 c.in_ok-first.ensures in
    settles-some T c.args.self.now c.in_ok-first.field-0 c.in-Some.kept is.0 is.1 (sym c.decision.ensures ∙ c.in-Some.is) before

pub returns-in-None-clause-settles : goal.returns-in-None-clause-settles
returns-in-None-clause-settles c = λ T before.
    let is = first-is c.args.self.now.marks.items c.in_ok-first.field-0 c.in_ok-first.ensures in
    settles-none T c.args.self.now c.in_ok-first.field-0 is.0 is.1 (sym c.decision.ensures ∙ c.in-None.is) before

pub returns-in_err-first-clause-settles : goal.returns-in_err-first-clause-settles
returns-in_err-first-clause-settles c = grind (arith, elements)
