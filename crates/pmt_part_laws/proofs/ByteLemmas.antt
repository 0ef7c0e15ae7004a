-- The bytes that a store writes are of its line.
use Rattle.pmt_part_laws.proofs.Prelude.{◌≡◌, ℕ, zero, suc, List, [], ◌∷◌, Some, refl, true, arith, subst, slice_get, Written, line_of, Stores, writes, Recording, IsTrace, IsEventIn, IsAct, AllByRecursion, IsWellFormed}
use Rattle.std.proofs.lemmas.Option.{none-some, same_Some}
use Rattle.pmt_tables.proofs.LineLemmas.{writes-line}

-- what holds of all holds of one
all-at : {X : Type 0} (P : X → Type 0) (xs : List X) (i : ℕ) (x : X) → AllByRecursion P xs → slice_get xs i ≡ Some x → P x
all-at P [] i x all is = absurd (none-some x is)
all-at P (y ∷ ys) zero x all is = subst P (same_Some y x is) all.0
all-at P (y ∷ ys) (suc i) x all is = all-at P ys i x all.1 is

-- in a trace of any length, since it is so in the trace that has this event alone
pub byte-line : (T : Recording) (n l : ℕ) (w : Written) (b : ℕ) → IsWellFormed T → IsAct T n (Stores l w) → writes w b ≡ true → line_of T.format b ≡ l
byte-line T zero l w b formed is hit = absurd (none-some is.0 is.1)
byte-line T (suc i) l w b formed is hit = writes-line one 1 l w b alone (is.0, refl, is.2) hit
  where
    one : Recording
    one = record { format = T.format; events = is.0 ∷ [] }

    alone : IsTrace one
    alone = record { format = formed.format; few = omega arith; each = (all-at (IsEventIn T.format) T.events i is.0 formed.each is.1, tt) }
