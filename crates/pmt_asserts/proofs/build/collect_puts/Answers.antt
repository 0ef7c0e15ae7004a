use Rattle.std.proofs.Common.{arith, ◌∙◌, ◌++◌, ◌∷◌, [], get_or, ap, refl, sym}
use Rattle.std.proofs.lemmas.Grind.{elements}
use Rattle.pmt_lines.proofs.StepLemmas.{no_step}
use Rattle.pmt_asserts.specs.Puts.{puts_of}
use Rattle.pmt_asserts.proofs.BuildLemmas.{puts_of-more}
use Rattle.pmt_asserts.proofs.build.collect_puts.Goals as goal

pub loop-step-preserved : goal.loop-step-preserved
loop-step-preserved c =
    let steps = c.args.steps.now in
    let i = c.loop-step.step-index in
    let s = get_or steps i no_step in
    c.in_ok-push_put.ensures {u = tt} ∙ ap (λ ps. ps ++ puts_of (s ∷ [])) c.loop-step.invariant ∙ sym (puts_of-more steps i no_step s c.loop-step-test.true refl)

pub returns-in_err-push_put : goal.returns-in_err-push_put
returns-in_err-push_put c = grind (arith, elements)

pub returns : goal.returns
returns c = grind (arith, elements)
