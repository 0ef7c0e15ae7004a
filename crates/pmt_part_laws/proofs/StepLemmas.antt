-- The histories of a trace and of the trace cut to a part, event by event.
use Rattle.pmt_part_laws.proofs.Prelude.{◌≡◌, ℕ, zero, suc, ◌<◌, ◌≤◌, inl, inr, List, [], ◌∷◌, length, refl, sym, ap, subst, subst₂, ◌∙◌, arith, ◌⊎◌, cases_lt, Written, Act, Stores, Flushes, Recording, act, IsAct, history, count_at, front_at, Has, cut, matching_place, event-some, history-act, act-unique, act-within, count-mono, front-le-count, has-dec, place-low, place-kept, place-dropped, count-at_store, IsSubsequence, kept-act, IsCarried, IsPart}

-- the history of the part at the place that matches place n
abbrev pub part_history : Recording → List ℕ → ℕ → List Act
part_history T K n = history (cut T K) (matching_place K n)

-- a part is a subsequence
pub part-subsequence : (T : Recording) (q r : ℕ) (K : List ℕ) → IsPart T q r K → IsSubsequence T K
part-subsequence T q r K part = record { rising = part.rising; within = λ k has. go k ((part.just k).0 has) }
  where
    go : (k : ℕ) → IsCarried T q k ⊎ ((q < k) × (k ≤ r)) → k ≤ length T.events
    go k (inl (inl store)) = (act-within T k (Stores store.line store.what) store.is_store).1
    go k (inl (inr flush)) = (act-within T k (Flushes flush.thread flush.line) flush.is_flush).1
    go k (inr x) = omega (arith, x.1, part.within)

-- What the next place brings to both histories: an event of the part, or another.
pub data IsNext (T : Recording) (K : List ℕ) (n : ℕ) : Type 0 where
  Keeps : (a : Act) → IsAct T (suc n) a → Has K (suc n) → history T (suc n) ≡ a ∷ history T n → part_history T K (suc n) ≡ a ∷ part_history T K n → IsNext T K n
  Drops : (a : Act) → IsAct T (suc n) a → ¬ Has K (suc n) → history T (suc n) ≡ a ∷ history T n → part_history T K (suc n) ≡ part_history T K n → IsNext T K n

pub next-step : (T : Recording) (q r : ℕ) (K : List ℕ) (n : ℕ) → IsPart T q r K → suc n ≤ r → IsNext T K n
next-step T q r K n part within = go (has-dec K (suc n))
  where
    e : (a : Act) × IsAct T (suc n) a
    e = let some = event-some T n (omega (arith, within, part.within)) in (act T.format some.0, (some.0, some.1, refl))

    s : IsSubsequence T K
    s = part-subsequence T q r K part

    kept : Has K (suc n) → part_history T K (suc n) ≡ e.0 ∷ part_history T K n
    kept has =
        let place = place-kept K n part.rising has in
        let own : IsAct (cut T K) (suc (matching_place K n)) e.0 = subst (λ m. IsAct (cut T K) m e.0) place (kept-act T K (suc n) e.0 s has e.1) in
        ap (history (cut T K)) place ∙ history-act (cut T K) (matching_place K n) e.0 own

    go : Has K (suc n) ⊎ (Has K (suc n) → ⊥) → IsNext T K n
    go (inl has) = Keeps e.0 e.1 has (history-act T n e.0 e.1) (kept has)
    go (inr dropped) = Drops e.0 e.1 dropped (history-act T n e.0 e.1) (ap (history (cut T K)) (place-dropped K n dropped))

-- before the first event the part has none
pub none-yet : (T : Recording) (q r : ℕ) (K : List ℕ) → IsPart T q r K → part_history T K 0 ≡ []
none-yet T q r K part = ap (history (cut T K)) (place-low 0 K 0 part.rising (omega arith))

-- What holds of both histories at the start, and goes on with each event, holds at each place of the stretch.
pub along : (T : Recording) (q r : ℕ) (K : List ℕ) (Q : List Act → List Act → Type 0) → IsPart T q r K → Q [] [] →
    ((n : ℕ) (a : Act) → suc n ≤ r → IsAct T (suc n) a → Has K (suc n) → Q (history T n) (part_history T K n) → Q (a ∷ history T n) (a ∷ part_history T K n)) →
    ((n : ℕ) (a : Act) → suc n ≤ r → IsAct T (suc n) a → ¬ Has K (suc n) → Q (history T n) (part_history T K n) → Q (a ∷ history T n) (part_history T K n)) →
    (n : ℕ) → n ≤ r → Q (history T n) (part_history T K n)
along T q r K Q part first keeps drops zero within = subst (Q []) (sym (none-yet T q r K part)) first
along T q r K Q part first keeps drops (suc n) within = go (next-step T q r K n part within) (along T q r K Q part first keeps drops n (omega arith))
  where
    go : IsNext T K n → Q (history T n) (part_history T K n) → Q (history T (suc n)) (part_history T K (suc n))
    go (Keeps a is has whole own) old = subst₂ Q (sym whole) (sym own) (keeps n a within is has old)
    go (Drops a is dropped whole own) old = subst₂ Q (sym whole) (sym own) (drops n a within is dropped old)

-- each event of the stretch is in the part
pub has-stretch : (T : Recording) (q r : ℕ) (K : List ℕ) (k : ℕ) → IsPart T q r K → q < k → k ≤ r → Has K k
has-stretch T q r K k part after within = (part.just k).1 (inr (after, within))

-- What holds of both histories where the stretch begins, and goes on with each of its events, holds at each of its places.
pub onward : (T : Recording) (q r : ℕ) (K : List ℕ) (Q : List Act → List Act → Type 0) → IsPart T q r K → Q (history T q) (part_history T K q) →
    ((n : ℕ) (a : Act) → q ≤ n → suc n ≤ r → IsAct T (suc n) a → Q (history T n) (part_history T K n) → Q (a ∷ history T n) (a ∷ part_history T K n)) →
    (n : ℕ) → q ≤ n → n ≤ r → Q (history T n) (part_history T K n)
onward T q r K Q part first each zero after within = let e : q ≡ zero = omega arith in subst (λ m. Q (history T m) (part_history T K m)) e first
onward T q r K Q part first each (suc n) after within = elim (cases_lt n q) [
  | inl now ↦ let e : q ≡ suc n = omega arith in subst (λ m. Q (history T m) (part_history T K m)) e first
  | inr later ↦ go later (next-step T q r K n part within) (onward T q r K Q part first each n later (omega arith))
]
  where
    go : q ≤ n → IsNext T K n → Q (history T n) (part_history T K n) → Q (history T (suc n)) (part_history T K (suc n))
    go later (Keeps a is has whole own) old = subst₂ Q (sym whole) (sym own) (each n a later within is old)
    go later (Drops a is dropped whole own) old = absurd (dropped (has-stretch T q r K (suc n) part (omega (arith, later)) within))

-- and no event of the part comes after it
pub part-by : (T : Recording) (q r : ℕ) (K : List ℕ) (k : ℕ) → IsPart T q r K → Has K k → k ≤ r
part-by T q r K k part has = go ((part.just k).0 has)
  where
    go : IsCarried T q k ⊎ ((q < k) × (k ≤ r)) → k ≤ r
    go (inl (inl store)) = omega (arith, store.by_now, part.order)
    go (inl (inr flush)) = omega (arith, flush.by_now, part.order)
    go (inr x) = x.1

-- a store whose rank is above the front at place q is in the part
pub store-kept : (T : Recording) (q r : ℕ) (K : List ℕ) (l k : ℕ) (w : Written) → IsPart T q r K → k ≤ r → IsAct T k (Stores l w) → front_at T l q < count_at T l k → Has K k
store-kept T q r K l k w part within is above = (part.just k).1 (elim (cases_lt q k) [
  | inl later ↦ inr (later, within)
  | inr by_now ↦ inl (inl (record { line = l; what = w; is_store = is; by_now = by_now; above = above }))
])

-- and no other is
pub kept-store : (T : Recording) (q r : ℕ) (K : List ℕ) (l k : ℕ) (w : Written) → IsPart T q r K → Has K k → IsAct T k (Stores l w) → front_at T l q < count_at T l k
kept-store T q r K l zero w part has is = absurd (omega (arith, (act-within T 0 (Stores l w) is).0))
kept-store T q r K l (suc n) w part has is = go ((part.just (suc n)).0 has)
  where
    go : IsCarried T q (suc n) ⊎ ((q < suc n) × (suc n ≤ r)) → front_at T l q < count_at T l (suc n)
    go (inl (inl store)) =
        let same = act-unique T (suc n) (Stores store.line store.what) (Stores l w) store.is_store is in
        let line : store.line ≡ l = cc in
        subst (λ k. front_at T k q < count_at T k (suc n)) line store.above
    go (inl (inr flush)) = let same = act-unique T (suc n) (Flushes flush.thread flush.line) (Stores l w) flush.is_flush is in absurd cc
    go (inr x) = omega (arith, count-at_store T l n w is, front-le-count l (history T q), count-mono T l q n (omega (arith, x.0)))
