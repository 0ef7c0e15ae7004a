-- Which flushes, clflushes and fences are kept, and which fences come without flush.
use Rattle.std.proofs.Common.{◌≡◌, ℕ, zero, suc, ◌-◌, ◌<◌, ◌≤◌, inl, inr, Bool, true, false, ◌==◌, ◌&&◌, ◌∷◌, max, refl, sym, ap, subst, ◌∙◌, true≢false, eqb-true, eq-eqb, arith}
use Rattle.std.specs.Prelude.{◌||◌, not, ◌↔◌}
use Rattle.std.proofs.lemmas.Bool.{cases_lt}
use Rattle.pmt_laws.specs.Prelude.{Act, Flushes, Fences, count, Recording, IsAct, history, count_at, front, front_at, IsEmptyFence}
use Rattle.pmt_model.specs.Keeping.{IsKept, ByFlush}
use Rattle.pmt_laws.proofs.Histories.{act-unique, act-within, history-act, history-step, count-mono}
use Rattle.pmt_laws.proofs.NeededFlushes.{kept-needed}
use Rattle.pmt_laws.proofs.PassLemmas.{fence_is_kept, clflush_is_kept}
use Rattle.pmt_safety.specs.Safety.{last_line_store_at, marked_store_at, safe_store_at, has_open_flush, EmptyFenceByFlag, KeptFlushByStores, KeptFenceByStores, KeptClflushByStores}
use Rattle.pmt_safety.proofs.StoreLemmas.{count-last, count-marked, count-safe, IsLineStore, last-is_store, marked-is_store, line_store-by}

-- a store comes after the last safe one exactly where it is counted above the front
later-above : (T : Recording) (l m n j : ℕ) → IsLineStore T l m j → (front_at T l n < count_at T l j) ↔ (safe_store_at T l n < j)
later-above T l m n j is = (there, back)
  where
    there : front_at T l n < count_at T l j → safe_store_at T l n < j
    there above = elim (cases_lt (safe_store_at T l n) j) [ inl later ↦ later | inr by_now ↦ absurd (omega (arith, above, count-safe T l n, count-mono T l j (safe_store_at T l n) by_now)) ]

    back : safe_store_at T l n < j → front_at T l n < count_at T l j
    back later = elim (cases_lt (front_at T l n) (count_at T l j)) [
      | inl above ↦ above
      | inr counted ↦ absurd (omega (arith, later, line_store-by T l m j (safe_store_at T l n) is (omega (arith, counted, count-safe T l n))))
    ]

-- the last store so far comes after the last safe one exactly where the front does not count all
last-above : (T : Recording) (l m n : ℕ) → (front_at T l n < count_at T l m) ↔ (safe_store_at T l n < last_line_store_at T l m)
last-above T l m n =
    let law = later-above T l m n (last_line_store_at T l m) (last-is_store T l m) in
    (λ above. law.0 (omega (arith, above, count-last T l m)), λ later. omega (arith, law.1 later, count-last T l m))

last-kept : (T : Recording) (t l i n : ℕ) → IsAct T (suc i) (Flushes t l) → IsAct T (suc n) (Fences t) → i < n → ((k : ℕ) → suc i < k → k ≤ n → ¬ IsAct T k (Fences t)) →
    ((k : ℕ) → suc i < k → k ≤ n → ¬ IsAct T k (Flushes t l)) → IsKept T (suc i) ↔ (safe_store_at T l n < last_line_store_at T l i)
last-kept T t l i n flush fence before unfenced last = (there, back)
  where
    same : count_at T l (suc i) ≡ count_at T l i
    same = ap (count l) (history-act T i (Flushes t l) flush)

    there : IsKept T (suc i) → safe_store_at T l n < last_line_store_at T l i
    there kept =
        let needed = kept-needed T t l (suc i) kept flush in
        let at : needed.before ≡ n = same_place needed.before (λ early. unfenced (suc needed.before) needed.later (omega arith) needed.is_fence) (λ late. needed.next_fence (suc n) (omega arith) (omega arith) fence) in
        let above : front_at T l n < count_at T l (suc i) = subst (λ m. front_at T l m < count_at T l (suc i)) at needed.needed in
        (last-above T l i n).0 (omega (arith, above, same))
      where
        same_place : (m : ℕ) → (m < n → ⊥) → (n < m → ⊥) → m ≡ n
        same_place m early late = omega (arith, early, late)

    back : safe_store_at T l n < last_line_store_at T l i → IsKept T (suc i)
    back later = ByFlush (record {
      thread = t;
      line = l;
      fence = suc n;
      is_flush = flush;
      is_fence = fence;
      later = omega arith;
      next_fence = λ k after by_then is. unfenced k after (omega arith) is;
      last_flush = λ k after by_then is. last k after (omega arith) is;
      needed = let e : suc n - 1 ≡ n = omega arith in rw e (omega (arith, same, (last-above T l i n).1 later));
    })

others-go : (T : Recording) (t l i k n : ℕ) → IsAct T i (Flushes t l) → IsAct T k (Flushes t l) → IsAct T n (Fences t) → i < k → k < n → ((m : ℕ) → i < m → m < n → ¬ IsAct T m (Fences t)) → ¬ IsKept T i
others-go T t l i k n flush later fence after before unfenced kept =
    let needed = kept-needed T t l i kept flush in
    elim (cases_lt (suc needed.before) n) [
      | inl early ↦ unfenced (suc needed.before) needed.later early needed.is_fence
      | inr late ↦ needed.last_flush k after (omega arith) later
    ]

pub kept_flush_by_stores : KeptFlushByStores
kept_flush_by_stores = record { last = last-kept; others = others-go }

pub kept_fence_by_stores : KeptFenceByStores
kept_fence_by_stores T t n fence = (there, back)
  where
    law : IsKept T (suc n) ↔ ((l : ℕ) × (front_at T l n < front_at T l (suc n)))
    law = fence_is_kept T t n fence

    raised : (l : ℕ) → front_at T l (suc n) ≡ max (front_at T l n) (count_at T l (marked_store_at T t l n))
    raised l = ap (front l) (history-act T n (Fences t) fence) ∙ ap (max (front_at T l n)) (sym (count-marked T t l n))

    there : IsKept T (suc n) → (l : ℕ) × (safe_store_at T l n < marked_store_at T t l n)
    there kept =
        let x = law.0 kept in
        (x.0, (later-above T x.0 n n (marked_store_at T t x.0 n) (marked-is_store T t x.0 n)).0 (omega (arith, x.1, raised x.0)))

    back : (l : ℕ) × (safe_store_at T l n < marked_store_at T t l n) → IsKept T (suc n)
    back (l, later) = law.1 (l, omega (arith, raised l, (later-above T l n n (marked_store_at T t l n) (marked-is_store T t l n)).1 later))

pub kept_clflush_by_stores : KeptClflushByStores
kept_clflush_by_stores T l n is =
    let law = clflush_is_kept T l n is in (
      λ kept. (last-above T l n n).0 (law.0 kept),
      λ later. law.1 ((last-above T l n n).1 later),
    )

-- What the flag tells of a thread's flushes: its last fence comes after each of them, or some flush after its last fence.
abbrev OpenTells : Recording → ℕ → ℕ → Bool → Type 0
OpenTells T t n false = (j l : ℕ) → j ≤ n → IsAct T j (Flushes t l) → (k : ℕ) × (j < k) × (k ≤ n) × IsAct T k (Fences t)
OpenTells T t n true = (j : ℕ) × (l : ℕ) × (j ≤ n) × IsAct T j (Flushes t l) × ((k : ℕ) → j < k → k ≤ n → ¬ IsAct T k (Fences t))

-- an event that is no flush and no fence of the thread tells nothing new
open-other : (T : Recording) (t n : ℕ) (b : Bool) → ((l : ℕ) → ¬ IsAct T (suc n) (Flushes t l)) → ¬ IsAct T (suc n) (Fences t) → OpenTells T t n b → OpenTells T t (suc n) b
open-other T t n false no_flush no_fence tells = λ j l by_now is. elim (cases_lt n j) [
  | inl late ↦ let e : j ≡ suc n = omega arith in absurd (no_flush l (subst (λ i. IsAct T i (Flushes t l)) e is))
  | inr early ↦ let x = tells j l early is in (x.0, x.1, omega (arith, x.2), x.3)
]
open-other T t n true no_flush no_fence x = (
  x.0,
  x.1,
  omega (arith, x.2),
  x.3,
  λ k after by_now is. elim (cases_lt n k) [
    | inl late ↦ let e : k ≡ suc n = omega arith in no_fence (subst (λ i. IsAct T i (Fences t)) e is)
    | inr early ↦ x.4 k after early is
  ],
)

open-tells : (T : Recording) (t n : ℕ) → OpenTells T t n (has_open_flush t (history T n))
open-tells T t zero = λ j l by_now is. absurd (omega (arith, by_now, (act-within T j (Flushes t l) is).0))
open-tells T t (suc n) = elim (history-step T n) [
  | inl x ↦ subst (λ h. OpenTells T t (suc n) (has_open_flush t h)) (sym (history-act T n x.0 x.1)) (go x.0 x.1 (open-tells T t n))
  | inr x ↦ subst (λ h. OpenTells T t (suc n) (has_open_flush t h)) (sym x.1)
      (open-other T t n (has_open_flush t (history T n)) (λ l is. omega (arith, (act-within T (suc n) (Flushes t l) is).1, x.0)) (λ is. omega (arith, (act-within T (suc n) (Fences t) is).1, x.0)) (open-tells T t n))
]
  where
    other : (a : Act) → IsAct T (suc n) a → ((l : ℕ) → a ≡ Flushes t l → ⊥) → (a ≡ Fences t → ⊥) → OpenTells T t n (has_open_flush t (history T n)) → OpenTells T t (suc n) (has_open_flush t (history T n))
    other a is no_flush no_fence old =
        open-other T t n (has_open_flush t (history T n)) (λ l flush. no_flush l (act-unique T (suc n) a (Flushes t l) is flush)) (λ fence. no_fence (act-unique T (suc n) a (Fences t) is fence)) old

    go : (a : Act) → IsAct T (suc n) a → OpenTells T t n (has_open_flush t (history T n)) → OpenTells T t (suc n) (has_open_flush t (a ∷ history T n))
    go (Flushes u k) is old = at (u == t) refl
      where
        at : (b : Bool) → (u == t) ≡ b → OpenTells T t (suc n) (b || has_open_flush t (history T n))
        at true e = (suc n, k, omega arith, subst (λ v. IsAct T (suc n) (Flushes v k)) (eqb-true u t e) is, λ m after by_now fence. omega arith)
        at false e = other (Flushes u k) is (λ l same. let thread : u ≡ t = cc in true≢false (sym (eq-eqb u t thread) ∙ e)) (λ same. cc) old
    go (Fences u) is old = at (u == t) refl
      where
        at : (b : Bool) → (u == t) ≡ b → OpenTells T t (suc n) (not b && has_open_flush t (history T n))
        at true e = λ j l by_now flush. elim (cases_lt n j) [
          | inl late ↦
              let here : j ≡ suc n = omega arith in
              let same = act-unique T (suc n) (Flushes t l) (Fences u) (subst (λ i. IsAct T i (Flushes t l)) here flush) is in
              absurd cc
          | inr early ↦ (suc n, omega arith, omega arith, subst (λ v. IsAct T (suc n) (Fences v)) (eqb-true u t e) is)
        ]
        at false e = other (Fences u) is (λ l same. cc) (λ same. let thread : u ≡ t = cc in true≢false (sym (eq-eqb u t thread) ∙ e)) old
    go a is old = other a is (λ l e. cc) (λ e. cc) old

pub empty_fence_by_flag : EmptyFenceByFlag
empty_fence_by_flag T t n fence = (λ it. there it (has_open_flush t (history T n)) (open-tells T t n), λ none. back (subst (OpenTells T t n) none (open-tells T t n)))
  where
    there : IsEmptyFence T (suc n) → (b : Bool) → OpenTells T t n b → b ≡ false
    there it false tells = refl
    there it true x =
        let same = act-unique T (suc n) (Fences it.thread) (Fences t) it.is_fence fence in
        let thread : t ≡ it.thread = cc in
        let flush : IsAct T x.0 (Flushes it.thread x.1) = subst (λ u. IsAct T x.0 (Flushes u x.1)) thread x.3 in
        let later = it.nothing x.0 x.1 (omega (arith, x.2)) flush in
        absurd (x.4 later.0 later.1 (omega (arith, later.2)) (subst (λ u. IsAct T later.0 (Fences u)) (sym thread) later.3))

    back : OpenTells T t n false → IsEmptyFence T (suc n)
    back tells = record {
      thread = t;
      is_fence = fence;
      nothing = λ j l before is. let x = tells j l (omega arith) is in (x.0, x.1, omega (arith, x.2), x.3);
    }
