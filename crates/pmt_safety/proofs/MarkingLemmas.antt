-- The stores that open flushes mark, counted.
use Rattle.std.proofs.Common.{◌≡◌, ℕ, suc, ◌<◌, ◌≤◌, inl, inr, Bool, true, false, ◌==◌, List, [], ◌∷◌, ◌++◌, max, refl, sym, ap, subst, ◌∙◌, eqb-true, arith}
use Rattle.std.specs.Prelude.{if◌then◌else◌, ◌↔◌}
use Rattle.std.proofs.lemmas.Bool.{cases_lt}
use Rattle.std.proofs.lemmas.Bool.Decides.{nat_tests}
use Rattle.pmt_laws.specs.Prelude.{Fences, Recording, history, count_at, front, front_at, IsKept, AllByRecursion}
use Rattle.pmt_laws.specs.Passing.{Flushed, open_flushes, most}
use Rattle.pmt_laws.proofs.Histories.{history-act, count-mono}
use Rattle.pmt_laws.proofs.PassLemmas.{IsOpenOf, are_open, fence_raises, fence_decides}
use Rattle.pmt_safety.specs.Safety.{safe_store_at, store_of, last_marked, FenceRaisesTo, FenceKeeps}
use Rattle.pmt_safety.proofs.StoreLemmas.{count-last, count-safe, IsLineStore, last-is_store, safe-is_store, line_store-by}

-- the later of two places counts the most
count-max : (T : Recording) (l m n : ℕ) → count_at T l (max m n) ≡ max (count_at T l m) (count_at T l n)
count-max T l m n = grind (arith, nat_tests, cases_lt, count-mono)

-- what a flush marks counts as many as it covers
store-counts : (T : Recording) (t n : ℕ) (f : Flushed) → IsOpenOf T t n f → count_at T f.line (store_of T f) ≡ f.stores
store-counts T t n f is = count-last T f.line f.number ∙ sym is.stores

-- and so does what flushes mark together
marked-counts : (T : Recording) (t n l : ℕ) (flushes : List Flushed) → AllByRecursion (IsOpenOf T t n) flushes → count_at T l (last_marked T l flushes) ≡ most l flushes
marked-counts T t n l [] each = refl
marked-counts T t n l (f ∷ flushes) each = go (f.line == l) refl (marked-counts T t n l flushes each.1)
  where
    go : (b : Bool) → (f.line == l) ≡ b → count_at T l (last_marked T l flushes) ≡ most l flushes →
        count_at T l (if b then max (store_of T f) (last_marked T l flushes) else last_marked T l flushes) ≡ (if b then max f.stores (most l flushes) else most l flushes)
    go true e rest =
        let here : count_at T l (store_of T f) ≡ f.stores = ap (λ k. count_at T k (store_of T f)) (sym (eqb-true f.line l e)) ∙ store-counts T t n f each.0 in
        count-max T l (store_of T f) (last_marked T l flushes) ∙ ap (λ c. max c (count_at T l (last_marked T l flushes))) here ∙ ap (max f.stores) rest
    go false e rest = rest

-- a store to the line that has come, or 0
by-now : (T : Recording) (l m n j : ℕ) → m ≤ n → IsLineStore T l m j → IsLineStore T l n j
by-now T l m n j h (inl none) = inl none
by-now T l m n j h (inr x) = inr (x.0, x.1, omega (arith, x.2, h))

store-is : (T : Recording) (t n : ℕ) (f : Flushed) → IsOpenOf T t n f → IsLineStore T f.line n (store_of T f)
store-is T t n f is = by-now T f.line f.number n (store_of T f) is.by_now (last-is_store T f.line f.number)

larger-store : (T : Recording) (l n i j : ℕ) → IsLineStore T l n i → IsLineStore T l n j → IsLineStore T l n (max i j)
larger-store T l n i j one two = elim (cases_lt i j) [
  | inl less ↦ let e : j ≡ max i j = omega arith in subst (IsLineStore T l n) e two
  | inr more ↦ let e : i ≡ max i j = omega arith in subst (IsLineStore T l n) e one
]

marked-is : (T : Recording) (t n l : ℕ) (flushes : List Flushed) → AllByRecursion (IsOpenOf T t n) flushes → IsLineStore T l n (last_marked T l flushes)
marked-is T t n l [] each = inl refl
marked-is T t n l (f ∷ flushes) each = go (f.line == l) refl (marked-is T t n l flushes each.1)
  where
    go : (b : Bool) → (f.line == l) ≡ b → IsLineStore T l n (last_marked T l flushes) → IsLineStore T l n (if b then max (store_of T f) (last_marked T l flushes) else last_marked T l flushes)
    go true e rest =
        let own : IsLineStore T l n (store_of T f) = subst (λ k. IsLineStore T k n (store_of T f)) (eqb-true f.line l e) (store-is T t n f each.0) in
        larger-store T l n (store_of T f) (last_marked T l flushes) own rest
    go false e rest = rest

-- stores to a line that count alike are one
one-store : (T : Recording) (l n i j : ℕ) → IsLineStore T l n i → IsLineStore T l n j → count_at T l i ≡ count_at T l j → i ≡ j
one-store T l n i j one two same = omega (arith, line_store-by T l n i j one (omega (arith, same)), line_store-by T l n j i two (omega (arith, same)))

pub fence_raises_to : FenceRaisesTo
fence_raises_to T t l n fence =
    one-store T l (suc n) (safe_store_at T l (suc n)) (max (safe_store_at T l n) (last_marked T l (open_flushes t (history T n)))) (safe-is_store T l (suc n))
    (by-now T l n (suc n) (max (safe_store_at T l n) (last_marked T l (open_flushes t (history T n)))) (omega arith)
    (larger-store T l n (safe_store_at T l n) (last_marked T l (open_flushes t (history T n))) (safe-is_store T l n) (marked-is T t n l (open_flushes t (history T n)) each)))
    (count-safe T l (suc n) ∙ ap (front l) (history-act T n (Fences t) fence) ∙ fence_raises t l (history T n) ∙ sym counted)
  where
    each : AllByRecursion (IsOpenOf T t n) (open_flushes t (history T n))
    each = (are_open T t n).each

    counted : count_at T l (max (safe_store_at T l n) (last_marked T l (open_flushes t (history T n)))) ≡ max (front_at T l n) (most l (open_flushes t (history T n)))
    counted =
        count-max T l (safe_store_at T l n) (last_marked T l (open_flushes t (history T n))) ∙ ap (λ c. max c (count_at T l (last_marked T l (open_flushes t (history T n))))) (count-safe T l n)
        ∙ ap (max (front_at T l n)) (marked-counts T t n l (open_flushes t (history T n)) each)

split-each : (P : Flushed → Type 0) (older : List Flushed) (f : Flushed) (newer : List Flushed) → AllByRecursion P (older ++ f ∷ newer) → P f × AllByRecursion P newer
split-each P [] f newer each = each
split-each P (x ∷ older) f newer each = split-each P older f newer each.1

pub fence_keeps : FenceKeeps
fence_keeps T t n older newer f fence split = (λ kept. there (law.0 kept), λ later. law.1 (back later))
  where
    law : IsKept T f.number ↔ (max (front_at T f.line n) (most f.line newer) < f.stores)
    law = fence_decides T t n older newer f fence split

    parts : IsOpenOf T t n f × AllByRecursion (IsOpenOf T t n) newer
    parts = split-each (IsOpenOf T t n) older f newer (subst (AllByRecursion (IsOpenOf T t n)) split (are_open T t n).each)

    counted : count_at T f.line (max (safe_store_at T f.line n) (last_marked T f.line newer)) ≡ max (front_at T f.line n) (most f.line newer)
    counted =
        count-max T f.line (safe_store_at T f.line n) (last_marked T f.line newer) ∙ ap (λ c. max c (count_at T f.line (last_marked T f.line newer))) (count-safe T f.line n)
        ∙ ap (max (front_at T f.line n)) (marked-counts T t n f.line newer parts.1)

    own : count_at T f.line (store_of T f) ≡ f.stores
    own = store-counts T t n f parts.0

    there : max (front_at T f.line n) (most f.line newer) < f.stores → max (safe_store_at T f.line n) (last_marked T f.line newer) < store_of T f
    there above = elim (cases_lt (max (safe_store_at T f.line n) (last_marked T f.line newer)) (store_of T f)) [
      | inl later ↦ later
      | inr by_then ↦
          let le = count-mono T f.line (store_of T f) (max (safe_store_at T f.line n) (last_marked T f.line newer)) by_then in
          let small : f.stores ≤ max (front_at T f.line n) (most f.line newer) = subst (λ c. f.stores ≤ c) counted (subst (λ c. c ≤ count_at T f.line (max (safe_store_at T f.line n) (last_marked T f.line newer))) own le) in
          absurd (not-both (max (front_at T f.line n) (most f.line newer)) f.stores above small)
    ]
      where
        not-both : (a b : ℕ) → a < b → b ≤ a → ⊥
        not-both a b less more = omega (arith, less, more)

    back : max (safe_store_at T f.line n) (last_marked T f.line newer) < store_of T f → max (front_at T f.line n) (most f.line newer) < f.stores
    back later = elim (cases_lt (max (front_at T f.line n) (most f.line newer)) f.stores) [
      | inl above ↦ above
      | inr counted_ ↦
          let le : count_at T f.line (store_of T f) ≤ count_at T f.line (max (safe_store_at T f.line n) (last_marked T f.line newer)) =
          subst (λ c. c ≤ count_at T f.line (max (safe_store_at T f.line n) (last_marked T f.line newer))) (sym own) (subst (λ c. f.stores ≤ c) (sym counted) counted_) in
          absurd (not-both (max (safe_store_at T f.line n) (last_marked T f.line newer)) (store_of T f) later
          (line_store-by T f.line n (store_of T f) (max (safe_store_at T f.line n) (last_marked T f.line newer)) (store-is T t n f parts.0) le))
    ]
      where
        not-both : (a b : ℕ) → a < b → b ≤ a → ⊥
        not-both a b less more = omega (arith, less, more)
