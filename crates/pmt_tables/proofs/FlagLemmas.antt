-- The numbers that are marked.
use Rattle.std.proofs.Common.{◌≡◌, ℕ, zero, suc, ◌+◌, ◌<◌, inl, inr, Bool, true, false, List, [], ◌∷◌, ◌++◌, length, get_or, take, None, refl, sym, ap, subst, ◌∙◌, arith}
use Rattle.std.specs.Prelude.{◌↔◌, nat_lt}
use Rattle.std.proofs.Math.Seq.{take-suc}
use Rattle.std.proofs.lemmas.Bool.{lt-ltb, false≢true}
use Rattle.std.proofs.lemmas.List.{length-take}
use Rattle.pmt_laws.proofs.CutLemmas.{has-above}
use Rattle.pmt_laws.specs.Prelude.{first_fall, IsRising, Has}
use Rattle.pmt_tables.specs.Flags.{is_kept_at, marked_from}

-- with one mark more at the end
marked_from-push : (n : ℕ) (marked : List Bool) (b : Bool) → marked_from n (marked ++ b ∷ []) ≡ marked_from n marked ++ marked_from (n + length marked) (b ∷ [])
marked_from-push n [] b = let e : n + 0 ≡ n = omega arith in rw e refl
marked_from-push n (true ∷ marked) b =
    let e : suc n + length marked ≡ n + suc (length marked) = omega arith in
    ap (λ ks. suc n ∷ ks) (marked_from-push (suc n) marked b ∙ ap (λ m. marked_from (suc n) marked ++ marked_from m (b ∷ [])) e)
marked_from-push n (false ∷ marked) b =
    let e : suc n + length marked ≡ n + suc (length marked) = omega arith in
    marked_from-push (suc n) marked b ∙ ap (λ m. marked_from (suc n) marked ++ marked_from m (b ∷ [])) e

-- the numbers of the first marks
pub marked-next : (marked : List Bool) (i : ℕ) (b : Bool) → i < length marked → get_or marked i false ≡ b →
    marked_from 0 (take (i + 1) marked) ≡ marked_from 0 (take i marked) ++ marked_from i (b ∷ [])
marked-next marked i b h is =
    let e : i + 1 ≡ suc i = omega arith in
    let long : length (take i marked) ≡ i = omega (arith, length-take i marked) in
    let start : 0 + i ≡ i = omega arith in
    ap (λ k. marked_from 0 (take k marked)) e ∙ ap (marked_from 0) (take-suc marked i false h) ∙ marked_from-push 0 (take i marked) (get_or marked i false)
    ∙ ap (λ m. marked_from 0 (take i marked) ++ marked_from (0 + m) (get_or marked i false ∷ [])) long
    ∙ ap (λ m. marked_from 0 (take i marked) ++ marked_from m (get_or marked i false ∷ [])) start
    ∙ ap (λ x. marked_from 0 (take i marked) ++ marked_from i (x ∷ [])) is

-- they rise
pub marked-rise : (n : ℕ) (marked : List Bool) → IsRising n (marked_from n marked)
marked-rise n [] = tt
marked-rise n (true ∷ marked) = (omega arith, marked-rise (suc n) marked)
marked-rise n (false ∷ marked) = lower n (marked_from (suc n) marked) (marked-rise (suc n) marked)
  where
    lower : (n : ℕ) (ks : List ℕ) → IsRising (suc n) ks → IsRising n ks
    lower n [] r = tt
    lower n (k ∷ ks) r = (omega (arith, r.0), r.1)

-- rising numbers have no fall
pub rising-no_fall : (low : ℕ) (ks : List ℕ) → IsRising low ks → first_fall low ks ≡ None
rising-no_fall low [] r = refl
rising-no_fall low (k ∷ ks) r = let e : nat_lt low k ≡ true = lt-ltb low k r.0 in rw (e, rising-no_fall k ks r.1) refl

-- they are those that are marked
pub has-marked : (n : ℕ) (marked : List Bool) (k : ℕ) → Has (marked_from n marked) (suc n + k) ↔ (get_or marked k false ≡ true)
has-marked n [] k = (λ h. absurd h, λ e. absurd (false≢true e))
has-marked n (true ∷ marked) zero = (λ _. refl, λ _. inl (omega arith))
has-marked n (true ∷ marked) (suc k) =
    let e : suc n + suc k ≡ suc (suc n) + k = omega arith in
    rw e (λ h. elim h [ inl f ↦ absurd (omega arith) | inr x ↦ (has-marked (suc n) marked k).0 x ], λ m. inr ((has-marked (suc n) marked k).1 m))
has-marked n (false ∷ marked) zero = (λ h. absurd (below (marked_from (suc n) marked) (marked-rise (suc n) marked) h), λ e. absurd (false≢true e))
  where
    below : (ks : List ℕ) → IsRising (suc n) ks → Has ks (suc n + 0) → ⊥
    below ks r h = let x = has-above (suc n) ks (suc n + 0) r h in omega arith
has-marked n (false ∷ marked) (suc k) = let e : suc n + suc k ≡ suc (suc n) + k = omega arith in rw e (has-marked (suc n) marked k)

pub has-numbers : (marked : List Bool) (n : ℕ) → Has (marked_from 0 marked) n ↔ (is_kept_at marked n ≡ true)
has-numbers marked zero = (λ h. let x = has-above 0 (marked_from 0 marked) 0 (marked-rise 0 marked) h in absurd (omega arith), λ e. absurd (false≢true e))
has-numbers marked (suc k) = let e : suc k ≡ suc 0 + k = omega arith in let P : ℕ → Type 0 = λ m. Has (marked_from 0 marked) m ↔ (get_or marked k false ≡ true) in subst P (sym e) (has-marked 0 marked k)
