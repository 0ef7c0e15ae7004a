-- Verdicts in a trace and in the trace cut to a part.
use Rattle.pmt_part_laws.proofs.Prelude.{◌≡◌, ℕ, zero, suc, ◌-◌, ◌<◌, ◌≤◌, inl, inr, List, sym, ap, subst, ◌∙◌, true, arith, ◌↔◌, ◌⊎◌, cases_lt, Written, Span, Stores, writes, Recording, IsAct, history, count_at, front_at, PersistPasses, OrderedPasses, Has, cut, matching_place, act-unique, count-mono, front-mono, place-mono, count-at_store, IsSubsequence, kept-act, IsOrigin, act-origin, placed-later, placed-by, IsWellFormed, IsPart, PartPersists, PartOrders, PartAsideFails}
use Rattle.pmt_laws.proofs.OverwrittenLemmas.{IsLastWriter, last_store_number-from, last_store_number-is}
use Rattle.pmt_safety.specs.Safety.{safe_store_at, IsLastIn}
use Rattle.pmt_safety.proofs.SafetyLemmas.{front-covers}
use Rattle.pmt_safety.proofs.VerdictLemmas.{persist_by_stores, ordered_by_stores}
use Rattle.pmt_slices.proofs.VerdictLemmas.{last-by_now, last_in-kept}
use Rattle.pmt_part_laws.proofs.ByteLemmas.{byte-line}
use Rattle.pmt_part_laws.proofs.StepLemmas.{part-subsequence, has-stretch, store-kept, kept-store}
use Rattle.pmt_part_laws.proofs.FrontLemmas.{count-part, front-part}

-- a store of the part is safe at a place exactly where the part tells so
pub safe-part : (T : Recording) (q r : ℕ) (K : List ℕ) (l j n : ℕ) (w : Written) → IsPart T q r K → n ≤ r → j ≤ r → Has K j → IsAct T j (Stores l w) →
    (j ≤ safe_store_at T l n) ↔ (matching_place K j ≤ safe_store_at (cut T K) l (matching_place K n))
safe-part T q r K l j n w part within by has is = (
  λ safe. part_covers.0 (omega (arith, covers.1 safe, counts, fronts)),
  λ safe. covers.0 (omega (arith, part_covers.1 safe, counts, fronts, kept-store T q r K l j w part has is)),
)
  where
    covers : (count_at T l j ≤ front_at T l n) ↔ (j ≤ safe_store_at T l n)
    covers = front-covers T l n j w is

    part_covers : (count_at (cut T K) l (matching_place K j) ≤ front_at (cut T K) l (matching_place K n)) ↔ (matching_place K j ≤ safe_store_at (cut T K) l (matching_place K n))
    part_covers = front-covers (cut T K) l (matching_place K n) (matching_place K j) w (kept-act T K j (Stores l w) (part-subsequence T q r K part) has is)

    counts : count_at (cut T K) l (matching_place K j) ≡ count_at T l j - front_at T l q
    counts = count-part T q r K l j part by

    fronts : front_at (cut T K) l (matching_place K n) ≡ front_at T l n - front_at T l q
    fronts = front-part T q r K l n part within

-- a store to a line after one that is in the part is in the part
pub later-kept : (T : Recording) (q r : ℕ) (K : List ℕ) (l j k : ℕ) (w v : Written) → IsPart T q r K → k ≤ r → Has K j → IsAct T j (Stores l w) → j < k → IsAct T k (Stores l v) → Has K k
later-kept T q r K l j zero w v part within has is later store = absurd (omega arith)
later-kept T q r K l j (suc m) w v part within has is later store =
    store-kept T q r K l (suc m) v part within store (omega (arith, kept-store T q r K l j w part has is, count-at_store T l m v store, count-mono T l j m (omega arith)))

-- the last store of the part to a byte is the last one of the whole
pub last-origin : (T : Recording) (q r : ℕ) (K : List ℕ) (n : ℕ) (A : Span) (l i : ℕ) → IsWellFormed T → IsPart T q r K → n ≤ r → IsLastIn (cut T K) (matching_place K n) A l i →
    (j : ℕ) × Has K j × IsLastIn T n A l j × (matching_place K j ≡ i)
last-origin T q r K n A l i trace part within it = (j, o.chosen, record { what = it.what; is_store = o.is_act; byte = it.byte; within = it.within; last = last_store_number-from T it.byte n j whole }, o.place)
  where
    s : IsSubsequence T K
    s = part-subsequence T q r K part

    o : IsOrigin T K i (Stores l it.what)
    o = act-origin T K i (Stores l it.what) s it.is_store

    j : ℕ
    j = o.number

    own : IsLastWriter (cut T K) it.byte (matching_place K n) i
    own = last_store_number-is (cut T K) it.byte (matching_place K n) i it.last

    hit : writes it.what it.byte ≡ true
    hit =
        let same = act-unique (cut T K) i (Stores own.line own.what) (Stores l it.what) own.is_store it.is_store in
        let what : own.what ≡ it.what = cc in
        subst (λ w. writes w it.byte ≡ true) what own.writes_it

    whole : IsLastWriter T it.byte n j
    whole = record {
      line = l;
      what = it.what;
      is_store = o.is_act;
      by_now = placed-by T K j n s o.chosen (omega (arith, own.by_now, o.place));
      writes_it = hit;
      last = λ k m v later by_now store wrote.
          let line : m ≡ l = sym (byte-line T k m v it.byte trace store wrote) ∙ byte-line T j l it.what it.byte trace o.is_act hit in
          let here : IsAct T k (Stores l v) = subst (λ x. IsAct T k (Stores x v)) line store in
          let has = later-kept T q r K l j k it.what v part (omega (arith, by_now, within)) o.chosen o.is_act later here in
          own.last (matching_place K k) l v (omega (arith, placed-later T K j k s has later, o.place)) (place-mono K k n by_now) (kept-act T K k (Stores l v) s has here) wrote;
    }

-- a store of the whole whose rank is at most the front at place q is safe in the stretch, and any other is in the part
pub safe-or_kept : (T : Recording) (q r : ℕ) (K : List ℕ) (l j n : ℕ) (w : Written) → IsPart T q r K → q ≤ n → j ≤ r → IsAct T j (Stores l w) → (j ≤ safe_store_at T l n) ⊎ Has K j
safe-or_kept T q r K l j n w part after by is = elim (cases_lt (front_at T l q) (count_at T l j)) [
  | inl above ↦ inr (store-kept T q r K l j w part by is above)
  | inr safe ↦ inl ((front-covers T l n j w is).0 (omega (arith, safe, front-mono T l q n after)))
]

pub part_persists : PartPersists
part_persists T q r K n A trace part after within = (there, back)
  where
    there : PersistPasses (history T n) A → PersistPasses (history (cut T K) (matching_place K n)) A
    there passes = (persist_by_stores (cut T K) (matching_place K n) A).1 (λ l i it.
        let from = last-origin T q r K n A l i trace part within it in
        let by : from.0 ≤ r = omega (arith, last-by_now T n A l from.0 from.2, within) in
        let safe = (safe-part T q r K l from.0 n from.2.what part within by from.1 from.2.is_store).0 ((persist_by_stores T n A).0 passes l from.0 from.2) in
        subst (λ k. k ≤ safe_store_at (cut T K) l (matching_place K n)) from.3 safe)

    back : PersistPasses (history (cut T K) (matching_place K n)) A → PersistPasses (history T n) A
    back passes = (persist_by_stores T n A).1 (λ l j it.
        let by : j ≤ r = omega (arith, last-by_now T n A l j it, within) in
        elim (safe-or_kept T q r K l j n it.what part after by it.is_store) [
          | inl safe ↦ safe
          | inr has ↦
              let own = last_in-kept T K n A l j (part-subsequence T q r K part) has it in
              (safe-part T q r K l j n it.what part within by has it.is_store).1 ((persist_by_stores (cut T K) (matching_place K n) A).0 passes l (matching_place K j) own)
        ])

pub part_orders : PartOrders
part_orders T q r K n A B trace part after within answered = (there, back)
  where
    s : IsSubsequence T K
    s = part-subsequence T q r K part

    there : OrderedPasses (history T n) A B → OrderedPasses (history (cut T K) (matching_place K n)) A B
    there passes = (ordered_by_stores (cut T K) (matching_place K n) A B).1 (λ l i k h first second.
        let x = last-origin T q r K n A l i trace part within first in
        let y = last-origin T q r K n B k h trace part within second in
        let by : x.0 ≤ r = omega (arith, last-by_now T n A l x.0 x.2, within) in
        let at : y.0 ≤ r = omega (arith, last-by_now T n B k y.0 y.2, within) in
        elim ((ordered_by_stores T n A B).0 passes l x.0 k y.0 x.2 y.2) [
          | inl same ↦ inl (same.0, omega (arith, place-mono K x.0 y.0 same.1, x.3, y.3))
          | inr safe ↦ inr (omega (arith, (safe-part T q r K l x.0 y.0 x.2.what part at by x.1 x.2.is_store).0 safe, x.3, ap (safe_store_at (cut T K) l) y.3))
        ])

    back : OrderedPasses (history (cut T K) (matching_place K n)) A B → OrderedPasses (history T n) A B
    back passes = (ordered_by_stores T n A B).1 (λ l j k i first second.
        let by : j ≤ r = omega (arith, last-by_now T n A l j first, within) in
        let at : i ≤ r = omega (arith, last-by_now T n B k i second, within) in
        let late : q < i = elim (cases_lt q i) [ inl later ↦ later | inr old ↦ absurd (answered (record { line = k; store = i; is_last = second; old = old })) ] in
        elim (safe-or_kept T q r K l j i first.what part (omega (arith, late)) by first.is_store) [
          | inl safe ↦ inr safe
          | inr has ↦
              let one = last_in-kept T K n A l j s has first in
              let other = last_in-kept T K n B k i s (has-stretch T q r K i part late at) second in
              elim ((ordered_by_stores (cut T K) (matching_place K n) A B).0 passes l (matching_place K j) k (matching_place K i) one other) [
                | inl same ↦ inl (same.0, placed-by T K j i s has same.1)
                | inr safe ↦ inr ((safe-part T q r K l j i first.what part at by has first.is_store).1 safe)
              ]
        ])

-- a store that was safe before the stretch came before each store of the part
pub part_aside_fails : PartAsideFails
part_aside_fails T q r K n A B l j k i part after within first second has hasnt passes = go ((ordered_by_stores T n A B).0 passes l j k i first second)
  where
    by : i ≤ r
    by = omega (arith, last-by_now T n B k i second, within)

    old : i ≤ q
    old = elim (cases_lt q i) [ inl late ↦ absurd (hasnt (has-stretch T q r K i part late by)) | inr early ↦ early ]

    -- no later store of its line is left out
    same_line : l ≡ k → j ≤ i → (j < i) ⊎ (i ≤ j) → ⊥
    same_line line order (inl before) =
        hasnt (later-kept T q r K l j i first.what second.what part by has first.is_store before (subst (λ m. IsAct T i (Stores m second.what)) (sym line) second.is_store))
    same_line line order (inr more) = let e : j ≡ i = omega (arith, order, more) in hasnt (subst (Has K) e has)

    go : ((l ≡ k) × (j ≤ i)) ⊎ (j ≤ safe_store_at T l i) → ⊥
    go (inl (line, order)) = same_line line order (cases_lt j i)
    go (inr safe) =
        omega (arith, kept-store T q r K l j first.what part has first.is_store, (front-covers T l i j first.what first.is_store).1 safe, front-mono T l i q old)
