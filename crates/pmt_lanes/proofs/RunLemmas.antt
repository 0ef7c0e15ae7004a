-- The run of digits at the front of a text, and in the first bytes of it.
use Rattle.std.proofs.Common.{◌≡◌, ℕ, suc, ◌+◌, min, Bool, true, false, true≢false, cond, List, ◌∷◌, take, refl, sym, arith}
use Rattle.std.specs.List.{prefix_len}

step : (b : Bool) (n m r : ℕ) → m ≡ min n r → cond b (1 + m) 0 ≡ min (suc n) (cond b (1 + r) 0)
step true n m r e = omega arith
step false n m r e = omega arith

-- among the first n bytes
pub run-take : (q : ℕ → Bool) (n : ℕ) (xs : List ℕ) → prefix_len q (take n xs) ≡ min n (prefix_len q xs)
run-take q (suc n) (x ∷ xs) = step (q x) n (prefix_len q (take n xs)) (prefix_len q xs) (run-take q n xs)
run-take q a b = omega arith

-- what is told where nothing was found, and where something was
pub not_found : {A : Type 0} → (A → ⊥) → (false ≡ true → A) × (A → false ≡ true)
not_found never = (λ e. absurd (true≢false (sym e)), λ a. absurd (never a))

pub is_found : {A : Type 0} → A → (true ≡ true → A) × (A → true ≡ true)
is_found a = (λ e. a, λ b. refl)
