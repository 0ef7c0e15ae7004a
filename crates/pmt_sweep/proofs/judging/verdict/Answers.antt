use Rattle.std.proofs.Common.{refl, ◌∙◌}
use Rattle.pmt_model.specs.Analyses.{OfPersist, OfOrdered}
use Rattle.pmt_sweep.proofs.judging.verdict.Goals as goal

pub returns-in-IsPersist-clause-tells : goal.returns-in-IsPersist-clause-tells
returns-in-IsPersist-clause-tells c = λ T e known found at op. (refl, OfPersist e at c.in-IsPersist.range (op ∙ c.in-IsPersist.is) refl (c.is_persisted.ensures T c.args.number known))

pub returns-in-IsOrderedBefore-clause-tells : goal.returns-in-IsOrderedBefore-clause-tells
returns-in-IsOrderedBefore-clause-tells c = λ T e known found at op. (refl, OfOrdered e at c.in-IsOrderedBefore.first c.in-IsOrderedBefore.second (op ∙ c.in-IsOrderedBefore.is) refl (c.is_ordered.ensures.tells T c.args.number known found))
