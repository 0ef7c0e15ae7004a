-- Verdicts in a trace and in the trace cut to a subsequence.
use Rattle.pmt_slices.proofs.Prelude.{◌≡◌, ℕ, ◌≤◌, inl, inr, List, Some, ap, subst, arith, ◌↔◌, Span, Stores, Recording, IsAct, history, last_store_number, InSpan, PersistPasses, OrderedPasses, Has, cut, matching_place, act-unique, place-mono, last_store_number-is, safe_store_at, IsLastIn, IsSubsequence, HasLastStores, HasGrounds, VerdictBySelection}
use Rattle.pmt_safety.proofs.VerdictLemmas.{persist_by_stores, ordered_by_stores}
use Rattle.pmt_slices.proofs.CuttingLemmas.{kept-act, placed-by, last-kept, last-from}
use Rattle.pmt_slices.proofs.CoverLemmas.{safe-stays}

-- the last store to a byte of the range comes by the place
pub last-by_now : (T : Recording) (n : ℕ) (A : Span) (l j : ℕ) → IsLastIn T n A l j → j ≤ n
last-by_now T n A l j it = (last_store_number-is T it.byte n j it.last).by_now

-- whatever store is the last one to a byte of the range is chosen
chosen-last : (T : Recording) (K : List ℕ) (n : ℕ) (A : Span) (b j : ℕ) → HasLastStores T (Has K) n A → InSpan A b → last_store_number b (history T n) ≡ Some j → Has K j
chosen-last T K n A b j stores within is =
    let it = last_store_number-is T b n j is in
    stores it.line j (record { what = it.what; is_store = it.is_store; byte = b; within = within; last = is })

-- it is the last one in the cut
pub last_in-kept : (T : Recording) (K : List ℕ) (n : ℕ) (A : Span) (l j : ℕ) → IsSubsequence T K → Has K j → IsLastIn T n A l j → IsLastIn (cut T K) (matching_place K n) A l (matching_place K j)
last_in-kept T K n A l j s chosen it = record {
  what = it.what;
  is_store = kept-act T K j (Stores l it.what) s chosen it.is_store;
  byte = it.byte;
  within = it.within;
  last = last-kept T K it.byte n j s chosen it.last;
}

-- and the last one in the cut is one of these
pub last_in-from : (T : Recording) (K : List ℕ) (n : ℕ) (A : Span) (l i : ℕ) → IsSubsequence T K → HasLastStores T (Has K) n A → IsLastIn (cut T K) (matching_place K n) A l i →
    (j : ℕ) × IsLastIn T n A l j × (matching_place K j ≡ i)
last_in-from T K n A l i s stores it =
    let from = last-from T K it.byte n i s (λ j. chosen-last T K n A it.byte j stores it.within) it.last in
    let j = from.0 in
    let writer = last_store_number-is T it.byte n from.0 from.1 in
    let chosen = chosen-last T K n A it.byte from.0 stores it.within from.1 in
    let P : ℕ → Type 0 = λ k. IsAct (cut T K) k (Stores writer.line writer.what) in
    let same = act-unique (cut T K) i (Stores writer.line writer.what) (Stores l it.what) (subst P from.2 (kept-act T K from.0 (Stores writer.line writer.what) s chosen writer.is_store)) it.is_store in
    let line : writer.line ≡ l = cc in
    (from.0, record { what = writer.what; is_store = subst (λ k. IsAct T from.0 (Stores k writer.what)) line writer.is_store; byte = it.byte; within = it.within; last = from.1 }, from.2)

-- whether a last store is safe at an earlier place too is told by the cut
pub grounds-safe : (T : Recording) (K : List ℕ) (n m : ℕ) (A : Span) (l j : ℕ) → IsSubsequence T K → HasGrounds T (Has K) n A → m ≤ n → IsLastIn T n A l j →
    (j ≤ safe_store_at T l m) ↔ (matching_place K j ≤ safe_store_at (cut T K) l (matching_place K m))
grounds-safe T K n m A l j s grounds by it =
    safe-stays T K l j m it.what s (grounds.stores l j it) it.is_store (λ p early from. grounds.covers l j p it (omega arith) from)

pub persist_stays : (T : Recording) (K : List ℕ) (n : ℕ) (A : Span) → IsSubsequence T K → HasGrounds T (Has K) n A → PersistPasses (history T n) A ↔ PersistPasses (history (cut T K) (matching_place K n)) A
persist_stays T K n A s grounds = (there, back)
  where
    there : PersistPasses (history T n) A → PersistPasses (history (cut T K) (matching_place K n)) A
    there passes = (persist_by_stores (cut T K) (matching_place K n) A).1 (λ l i it.
        let from = last_in-from T K n A l i s grounds.stores it in
        let safe = (persist_by_stores T n A).0 passes l from.0 from.1 in
        subst (λ k. k ≤ safe_store_at (cut T K) l (matching_place K n)) from.2 ((grounds-safe T K n n A l from.0 s grounds (omega arith) from.1).0 safe))

    back : PersistPasses (history (cut T K) (matching_place K n)) A → PersistPasses (history T n) A
    back passes = (persist_by_stores T n A).1 (λ l j it.
        let safe = (persist_by_stores (cut T K) (matching_place K n) A).0 passes l (matching_place K j) (last_in-kept T K n A l j s (grounds.stores l j it) it) in
        (grounds-safe T K n n A l j s grounds (omega arith) it).1 safe)

pub ordered_stays : (T : Recording) (K : List ℕ) (n : ℕ) (A B : Span) → IsSubsequence T K → HasGrounds T (Has K) n A → HasLastStores T (Has K) n B →
    OrderedPasses (history T n) A B ↔ OrderedPasses (history (cut T K) (matching_place K n)) A B
ordered_stays T K n A B s grounds stores = (there, back)
  where
    there : OrderedPasses (history T n) A B → OrderedPasses (history (cut T K) (matching_place K n)) A B
    there passes = (ordered_by_stores (cut T K) (matching_place K n) A B).1 (λ l i k h first second.
        let x = last_in-from T K n A l i s grounds.stores first in
        let y = last_in-from T K n B k h s stores second in
        elim ((ordered_by_stores T n A B).0 passes l x.0 k y.0 x.1 y.1) [
          | inl same ↦ inl (same.0, omega (arith, place-mono K x.0 y.0 same.1, x.2, y.2))
          | inr safe ↦ inr (omega (arith, (grounds-safe T K n y.0 A l x.0 s grounds (last-by_now T n B k y.0 y.1) x.1).0 safe, x.2, ap (λ m. safe_store_at (cut T K) l m) y.2))
        ])

    back : OrderedPasses (history (cut T K) (matching_place K n)) A B → OrderedPasses (history T n) A B
    back passes = (ordered_by_stores T n A B).1 (λ l j k i first second.
        let one = last_in-kept T K n A l j s (grounds.stores l j first) first in
        let other = last_in-kept T K n B k i s (stores k i second) second in
        elim ((ordered_by_stores (cut T K) (matching_place K n) A B).0 passes l (matching_place K j) k (matching_place K i) one other) [
          | inl same ↦ inl (same.0, placed-by T K j i s (grounds.stores l j first) same.1)
          | inr safe ↦ inr ((grounds-safe T K n i A l j s grounds (last-by_now T n B k i second) first).1 safe)
        ])

pub verdict_by_selection : VerdictBySelection
verdict_by_selection = record { persist = persist_stays; ordered = ordered_stays }
