-- Where a list of numbers stops rising.
use Rattle.std.proofs.Common.{◌≡◌, ℕ, zero, suc, ◌+◌, ◌≤◌, nat_lt, Bool, true, false, if◌then◌else◌, List, [], ◌∷◌, refl, arith, drop, length, Option, Some, None}
use Rattle.std.specs.Option.{option_map}
use Rattle.std.proofs.lemmas.Bool.{ltb-true}
use Rattle.pmt_model.specs.Selections.{first_fall, IsRising}

none_before_map : (o : Option ℕ) → option_map (λ p. suc p) o ≡ None → o ≡ None
none_before_map None e = refl
none_before_map (Some x) e = cc

rises_at : (low k : ℕ) (ks : List ℕ) (b : Bool) → nat_lt low k ≡ b → (if b then option_map (λ p. suc p) (first_fall k ks) else Some 0) ≡ None → (first_fall k ks ≡ None → IsRising k ks) → IsRising low (k ∷ ks)
rises_at low k ks true t e later = (ltb-true low k t, later (none_before_map (first_fall k ks) e))
rises_at low k ks false t e later = cc

-- A list without a fall rises.
pub no-fall-rises : (low : ℕ) (ks : List ℕ) → first_fall low ks ≡ None → IsRising low ks
no-fall-rises low [] e = tt
no-fall-rises low (k ∷ ks) e = rises_at low k ks (nat_lt low k) refl e (no-fall-rises k ks)

-- Where the list falls, once the first numbers are passed.
abbrev pub fall_after : ℕ → ℕ → List ℕ → Option ℕ
fall_after position low ks = option_map (λ p. position + p) (first_fall low (drop position ks))

-- Past the last number there is no fall.
pub fall-ends : (position low : ℕ) (ks : List ℕ) → length ks ≤ position → fall_after position low ks ≡ None
fall-ends position low ks h = rw (drop-past position ks h) refl where
  drop-past : (n : ℕ) (xs : List ℕ) → length xs ≤ n → drop n xs ≡ []
  drop-past zero [] h = refl
  drop-past zero (x ∷ xs) h = absurd (omega arith)
  drop-past (suc n) [] h = refl
  drop-past (suc n) (x ∷ xs) h = drop-past n xs (omega arith)
