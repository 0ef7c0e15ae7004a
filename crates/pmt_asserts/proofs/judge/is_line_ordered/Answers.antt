use Rattle.std.proofs.Common.{ℕ, ◌≤◌, IfSome, refl, sym, subst}
use Rattle.pmt_asserts.specs.Tables.{PersistedBy, EachIn}
use Rattle.pmt_asserts.proofs.judge.is_line_ordered.Goals as goal

pub returns-then-not-is_line_in_order : goal.returns-then-not-is_line_in_order
returns-then-not-is_line_in_order c = λ T k h. (λ t. absurd cc, λ ordered. absurd (let told = (c.is_line_in_order.ensures T k).1 ordered.0 in cc))

pub returns-in-None : goal.returns-in-None
returns-in-None c = λ T k h.
    let persisted : ℕ → Type 0 = λ n. EachIn T c.args.line c.args.first (PersistedBy T c.args.number n) in
    (λ t. ((c.is_line_in_order.ensures T k).0 c.if-not-is_line_in_order.false, subst (λ o. IfSome o persisted) (sym c.in-None.is) tt), λ ordered. refl)

pub returns-in-Some : goal.returns-in-Some
returns-in-Some c = λ T k h.
    let persisted : ℕ → Type 0 = λ n. EachIn T c.args.line c.args.first (PersistedBy T c.args.number n) in
    let told = c.is_line_persisted.ensures T k (subst (λ o. IfSome o (λ n. n ≤ c.args.number)) c.in-Some.is h) in (
      λ t. ((c.is_line_in_order.ensures T k).0 c.if-not-is_line_in_order.false, subst (λ o. IfSome o persisted) (sym c.in-Some.is) (told.0 t)),
      λ ordered. told.1 (subst (λ o. IfSome o persisted) c.in-Some.is ordered.1),
    )
