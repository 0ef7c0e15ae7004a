use Rattle.std.proofs.Common.{◌≡◌, ◌++◌, ◌∷◌, [], Some, true, false, ap, sym, subst, ◌∙◌, arith}
use Rattle.std.proofs.lemmas.Grind.{common_steps}
use Rattle.std.specs.Prelude.{nat_eq, slice_get}
use Rattle.std.specs.List.{IsDistinct}
use Rattle.pmt_explain.proofs.NumberLemmas.{reaches}
use Rattle.pmt_explain.proofs.numbers.Numbers.insert.Goals as goal

pub returns-then-is_new : goal.returns-then-is_new
returns-then-is_new c =
    let known : c.push_reserved.new.self.items ≡ c.self.inside.rows.items ++ record { line = c.args.line; number = c.args.other } ∷ [] = c.push_reserved.ensures.items ∙ ap (λ rows. rows ++ record { line = c.args.line; number = c.args.other } ∷ []) c.reserve.ensures.items in
    rw (← c.self.view_is, known)
    (reaches c.self.inside.lines c.self.inside.rows.items c.args.line c.args.other c.in_ok-place.place true c.self.invariant (sym c.if-is_new.true ∙ c.in_ok-place.ensures.added)
    (subst (IsDistinct nat_eq) c.in_ok-place.ensures.lines c.in_ok-place.ensures.unique) (subst (λ ls. slice_get ls c.in_ok-place.place ≡ Some c.args.line) c.in_ok-place.ensures.lines c.in_ok-place.ensures.here))

pub returns-else-is_new : goal.returns-else-is_new
returns-else-is_new c =
    rw (← c.self.view_is, c.reserve.ensures.items)
    (reaches c.self.inside.lines c.self.inside.rows.items c.args.line c.args.other c.in_ok-place.place false c.self.invariant (sym c.if-is_new.false ∙ c.in_ok-place.ensures.added)
    (subst (IsDistinct nat_eq) c.in_ok-place.ensures.lines c.in_ok-place.ensures.unique) (subst (λ ls. slice_get ls c.in_ok-place.place ≡ Some c.args.line) c.in_ok-place.ensures.lines c.in_ok-place.ensures.here))

pub invariant_of-self-then-is_new : goal.invariant_of-self-then-is_new
invariant_of-self-then-is_new c = grind (arith, common_steps)
