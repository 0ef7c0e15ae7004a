use Rattle.std.proofs.Common.{◌≡◌, Some, refl, sym, ◌∙◌}
use Rattle.pmt_laws.specs.Prelude.{OfPersist, OfOrdered, event}
use Rattle.pmt_asserts.specs.Tables.{Knows}
use Rattle.pmt_asserts.proofs.VerdictLemmas.{number-within}
use Rattle.pmt_asserts.proofs.judge.verdict.Goals as goal

pub returns-in-IsPersist : goal.returns-in-IsPersist
returns-in-IsPersist c =
    let T = c.args.trace.now in
    let e = c.in_ok-op.field-0 in
    let at : event T c.args.number ≡ Some e = sym c.get.ensures ∙ c.in_ok-op.was {u = tt} in
    let known : Knows c.args.tables.now c.format-format.result c.args.number T = record { results = c.requires; within = number-within T c.args.number e at; formatted = sym c.format-format.ensures.value; trace = c.format-format.ensures.is_trace } in
    (refl, OfPersist e at c.in-IsPersist.range c.in-IsPersist.is refl (c.persists.ensures T known))

pub returns-in-IsOrderedBefore : goal.returns-in-IsOrderedBefore
returns-in-IsOrderedBefore c =
    let T = c.args.trace.now in
    let e = c.in_ok-op.field-0 in
    let at : event T c.args.number ≡ Some e = sym c.get.ensures ∙ c.in_ok-op.was {u = tt} in
    let known : Knows c.args.tables.now c.format-format.result c.args.number T = record { results = c.requires; within = number-within T c.args.number e at; formatted = sym c.format-format.ensures.value; trace = c.format-format.ensures.is_trace } in
    (refl, OfOrdered e at c.in-IsOrderedBefore.first c.in-IsOrderedBefore.second c.in-IsOrderedBefore.is refl (c.is_ordered.ensures T known))
