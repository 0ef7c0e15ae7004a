use Rattle.std.proofs.Common.{refl, rules}
use Rattle.command_explain.proofs.TellingLemmas.{tells-json}
use Rattle.command_explain.proofs.explain.run_explain.Goals as goal

pub returns-clause-json : goal.returns-clause-json
returns-clause-json g c no-file no-out is-json =
    tells-json _ _ _ _ _ _ _ _ (c.in_ok-told.ensures.json no-out is-json) (record { limit = refl; choice = refl; strict = refl; ignored = λ empty. search rules }) (c.in_ok-taken.ensures.whole no-file)
    c.in_ok-labels.ensures.none (search rules) (c.in_ok-lacking.ensures no-file).1
