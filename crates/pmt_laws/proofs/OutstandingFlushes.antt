-- What is outstanding after a history, against its marks and counts.
use Rattle.std.proofs.Common.{◌≡◌, ℕ, ◌≤◌, List, [], ◌∷◌, ◌&&◌, ◌==◌, refl, subst, eq-eqb, le_trans, arith}
use Rattle.std.proofs.lemmas.Bool.{cond_both, and_parts, and_from, cond-true}
use Rattle.std.proofs.lemmas.Bool.Decides.{nat_tests}
use Rattle.pmt_laws.specs.Prelude.{Act, Flushes, Outstanding, count, mark, AllByRecursion}
use Rattle.pmt_laws.proofs.Histories.{mark-le-count}

-- every flush of a history, the newest first, with the stores that it marked
abbrev pub owing : List Act → List Outstanding
owing [] = []
owing (Flushes t l ∷ h) = record { thread = t; line = l; stores = count l h } ∷ owing h
owing (a ∷ h) = owing h

-- the stores that the thread's flushes marked are at most so many, by line
abbrev pub OwesAtMost : ℕ → (ℕ → ℕ) → List Outstanding → Type 0
OwesAtMost t bound os = AllByRecursion (λ o. o.thread ≡ t → o.stores ≤ bound o.line) os

-- a flush marks the stores to its line
pub mark-flush : (t l : ℕ) (h : List Act) → mark t l (Flushes t l ∷ h) ≡ count l h
mark-flush t l h = cond-true ((t == t) && (l == l)) (count l h) (mark t l h) (and_from (t == t) (l == l) (eq-eqb t t refl) (eq-eqb l l refl))

-- a fence waits for every mark of its thread
pub mark-le_owed : (t l : ℕ) (bound : ℕ → ℕ) (h : List Act) → OwesAtMost t bound (owing h) → mark t l h ≤ bound l
mark-le_owed t l bound [] owed = omega arith
mark-le_owed t l bound (Flushes u k ∷ h) owed = grind (arith, nat_tests, cond_both, and_parts, mark-le_owed t l bound h owed.1)
mark-le_owed t l bound (a ∷ h) owed = mark-le_owed t l bound h owed

-- an older mark of the thread is at most the newer one
pub mark-grows : (t l : ℕ) (a : Act) (h : List Act) → mark t l h ≤ mark t l (a ∷ h)
mark-grows t l (Flushes u k) h = cond_both ((u == t) && (k == l)) (count l h) (mark t l h) (λ x. mark t l h ≤ x) (λ both. mark-le-count t l h) (λ other. omega arith)
mark-grows t l a h = omega arith

-- a fence waits for no more than the marks of its thread
pub owed_from_marks : (t : ℕ) (bound : ℕ → ℕ) (h : List Act) → ((l : ℕ) → mark t l h ≤ bound l) → OwesAtMost t bound (owing h)
owed_from_marks t bound [] marked = tt
owed_from_marks t bound (Flushes u k ∷ h) marked = (
  λ same. subst (λ x. x ≤ bound k) (mark-flush t k h) (subst (λ v. mark t k (Flushes v k ∷ h) ≤ bound k) same (marked k)),
  owed_from_marks t bound h (λ l. le_trans (mark-grows t l (Flushes u k) h) (marked l)),
)
owed_from_marks t bound (a ∷ h) marked = owed_from_marks t bound h marked
