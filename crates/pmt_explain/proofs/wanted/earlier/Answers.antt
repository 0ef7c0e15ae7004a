use Rattle.std.proofs.Common.{inr, refl, sym, ◌∙◌}
use Rattle.std.proofs.lemmas.Bool.{false≢true}
use Rattle.pmt_explain.proofs.wanted.earlier.Goals as goal
use Rattle.pmt_explain.proofs.wanted.earlier.Goals.{else-comes_first-via-then-comes_first+else-is_wanted, else-comes_first-via-else-comes_first}

pub returns : goal.returns
returns c = inr (
  (λ before wants. elim c.else-comes_first.branch [
    | else-comes_first-via-then-comes_first+else-is_wanted w ↦ absurd (false≢true (sym w.if-is_wanted.false ∙ w.is_wanted.ensures.1 wants))
    | else-comes_first-via-else-comes_first w ↦ absurd (false≢true (sym w.if-comes_first.false ∙ c.comes_first.ensures ∙ before))
  ]),
  refl,
)
