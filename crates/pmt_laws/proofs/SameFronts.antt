-- Equal counts of persisted stores make equal fronts, since the fronts are the least of them.
use Rattle.std.proofs.Common.{◌≡◌, ◌≢◌, ℕ, zero, suc, ◌-◌, ◌≤◌, ◌↔◌, ◌⊎◌, inl, inr, List, length, sym, ap, ◌∙◌, arith, le_antisymm}
use Rattle.pmt_laws.specs.Prelude.{Act, Vectors, Recording, IsAct, history, front, front_at, Has, cut, matching_place, HasSameVectors}
use Rattle.pmt_laws.proofs.Histories.{front-le-count, act-within}
use Rattle.pmt_laws.proofs.BoxLemmas.{vectors_are_a_box}
use Rattle.pmt_laws.proofs.CutLemmas.{has-dec, place-dropped}

-- the fronts are counts that runs may end with
pub fronts-are-vectors : (h : List Act) → Vectors h (λ l. front l h)
fronts-are-vectors h = (vectors_are_a_box h (λ l. front l h)).1 (λ l. (omega arith, front-le-count l h))

-- where the fronts of one history are counts of another, the other's fronts are at most those
least-front : (h g : List Act) (l : ℕ) → (Vectors g (λ k. front k g) → Vectors h (λ k. front k g)) → front l h ≤ front l g
least-front h g l same = ((vectors_are_a_box h (λ k. front k g)).0 (same (fronts-are-vectors g)) l).0

-- histories that end with the same counts have the same fronts
pub equal-fronts : (h g : List Act) → ((v : ℕ → ℕ) → Vectors h v ↔ Vectors g v) → (l : ℕ) → front l h ≡ front l g
equal-fronts h g same l = le_antisymm (least-front h g l (same (λ k. front k g)).1) (least-front g h l (same (λ k. front k h)).0)

-- a selection with the same counts has the same fronts
pub fronts-selected : (T : Recording) (S : List ℕ) (l n : ℕ) → HasSameVectors T S → n ≤ length T.events → front_at T l n ≡ front_at (cut T S) l (matching_place S n)
fronts-selected T S l n same within = equal-fronts (history T n) (history (cut T S) (matching_place S n)) (same n within) l

-- it has each event that raises a front
pub raising-selected : (T : Recording) (S : List ℕ) (l i : ℕ) (a : Act) → HasSameVectors T S → IsAct T i a → front_at T l i ≢ front_at T l (i - 1) → Has S i
raising-selected T S l zero a same x raises = absurd (omega (arith, (act-within T 0 a x).0))
raising-selected T S l (suc n) a same x raises = go (has-dec S (suc n))
  where
    go : Has S (suc n) ⊎ (Has S (suc n) → ⊥) → Has S (suc n)
    go (inl has) = has
    go (inr dropped) =
        let within : suc n ≤ length T.events = (act-within T (suc n) a x).1 in
        let before : suc n - 1 ≡ n = omega arith in
        let stays : front_at (cut T S) l (matching_place S (suc n)) ≡ front_at (cut T S) l (matching_place S n) = ap (front_at (cut T S) l) (place-dropped S n dropped) in
        let equal : front_at T l (suc n) ≡ front_at T l n = fronts-selected T S l (suc n) same within ∙ stays ∙ sym (fronts-selected T S l n same (omega arith)) in
        absurd (raises (rw before equal))
