-- Events of a trace, and those of the trace cut to a subsequence.
use Rattle.pmt_slices.proofs.Prelude.{◌≡◌, ℕ, zero, suc, ◌<◌, ◌≤◌, inl, inr, List, [], ◌∷◌, length, Option, Some, None, filter_map, refl, sym, ap, ◌∙◌, arith, slice_get, cases_lt, le-leb, lt-leb, Event, Act, Stores, Recording, event, IsAct, history, last_store_number, IsRising, Has, cut, matching_place, event-some, act-within, has-above, place-low, place-kept, place-mono, IsLastWriter, LastWriter, last_store_number-tells, last_store_number-from, last_store_number-is, IsSubsequence}

-- each number is that of an event
abbrev AreThere : Recording → List ℕ → Type 0
AreThere T K = (k : ℕ) → Has K k → (e : Event) × (event T k ≡ Some e)

are-there : (T : Recording) (K : List ℕ) → IsSubsequence T K → AreThere T K
are-there T K s zero h = let above : 0 < 0 = has-above 0 K 0 s.rising h in absurd (omega arith)
are-there T K s (suc n) h = let le : suc n ≤ length T.events = s.within (suc n) h in event-some T n (omega arith)

-- one more of the numbers is at most n, or is not
pub place-in : (k : ℕ) (ks : List ℕ) (n : ℕ) → k ≤ n → matching_place (k ∷ ks) n ≡ suc (matching_place ks n)
place-in k ks n h = rw (le-leb k n h) refl

pub place-out : (k : ℕ) (ks : List ℕ) (n : ℕ) → n < k → matching_place (k ∷ ks) n ≡ matching_place ks n
place-out k ks n h = rw (lt-leb k n h) refl

-- the events of a cut, the first number's first
events-cons : (T : Recording) (k : ℕ) (ks : List ℕ) (e : Event) → event T k ≡ Some e → filter_map (event T) (k ∷ ks) ≡ e ∷ filter_map (event T) ks
events-cons T k ks e h = rw h refl

-- where a chosen event stands in the cut
get-kept : (T : Recording) (low : ℕ) (K : List ℕ) (n : ℕ) → IsRising low K → AreThere T K → Has K (suc n) → slice_get (filter_map (event T) K) (matching_place K n) ≡ event T (suc n)
get-kept T low [] n r there h = absurd h
get-kept T low (k ∷ ks) n r there (inl e) =
    let first = there k (inl refl) in
    let place : matching_place (k ∷ ks) n ≡ 0 = place-out k ks n (omega arith) ∙ place-low k ks n r.1 (omega arith) in
    ap (slice_get (filter_map (event T) (k ∷ ks))) place ∙ ap (λ xs. slice_get xs 0) (events-cons T k ks first.0 first.1) ∙ sym first.1 ∙ ap (event T) e
get-kept T low (k ∷ ks) n r there (inr h) =
    let first = there k (inl refl) in
    let above : k < suc n = has-above k ks (suc n) r.1 h in
    ap (slice_get (filter_map (event T) (k ∷ ks))) (place-in k ks n (omega arith)) ∙ ap (λ xs. slice_get xs (suc (matching_place ks n))) (events-cons T k ks first.0 first.1)
    ∙ get-kept T k ks n r.1 (λ j has. there j (inr has)) h

-- which event of the trace one of the cut is
abbrev ComesFrom : Recording → List ℕ → ℕ → Event → Type 0
ComesFrom T K m e = (n : ℕ) × Has K (suc n) × (matching_place K n ≡ m) × (event T (suc n) ≡ Some e)

get-from : (T : Recording) (low : ℕ) (K : List ℕ) (m : ℕ) (e : Event) → IsRising low K → AreThere T K → slice_get (filter_map (event T) K) m ≡ Some e → ComesFrom T K m e
get-from T low [] m e r there is = absurd (cc)
get-from T low (zero ∷ ks) m e r there is = let above : low < 0 = r.0 in absurd (omega arith)
get-from T low (suc j ∷ ks) zero e r there is =
    let first = there (suc j) (inl refl) in
    (j, inl refl, place-out (suc j) ks j (omega arith) ∙ place-low (suc j) ks j r.1 (omega arith), first.1 ∙ ap (λ xs. slice_get xs 0) (sym (events-cons T (suc j) ks first.0 first.1)) ∙ is)
get-from T low (suc j ∷ ks) (suc m) e r there is =
    let first = there (suc j) (inl refl) in
    let further = get-from T (suc j) ks m e r.1 (λ k has. there k (inr has)) (ap (λ xs. slice_get xs (suc m)) (sym (events-cons T (suc j) ks first.0 first.1)) ∙ is) in
    let above : suc j < suc (further.0) = has-above (suc j) ks (suc (further.0)) r.1 further.1 in
    (further.0, inr further.1, place-in (suc j) ks further.0 (omega arith) ∙ ap suc further.2, further.3)

-- a chosen event stands in the cut at its matching place
pub kept-event : (T : Recording) (K : List ℕ) (k : ℕ) → IsSubsequence T K → Has K k → event (cut T K) (matching_place K k) ≡ event T k
kept-event T K zero s h = let above : 0 < 0 = has-above 0 K 0 s.rising h in absurd (omega arith)
kept-event T K (suc n) s h = ap (event (cut T K)) (place-kept K n s.rising h) ∙ get-kept T 0 K n s.rising (are-there T K s) h

pub kept-act : (T : Recording) (K : List ℕ) (k : ℕ) (a : Act) → IsSubsequence T K → Has K k → IsAct T k a → IsAct (cut T K) (matching_place K k) a
kept-act T K k a s h is = (is.0, kept-event T K k s h ∙ is.1, is.2)

-- Act i of the cut is that of this chosen event.
pub record IsOrigin (T : Recording) (K : List ℕ) (i : ℕ) (a : Act) : Type 0 where
  pub number : ℕ
  pub chosen : Has K number
  pub place : matching_place K number ≡ i
  pub is_act : IsAct T number a

-- each has an origin
pub act-origin : (T : Recording) (K : List ℕ) (i : ℕ) (a : Act) → IsSubsequence T K → IsAct (cut T K) i a → IsOrigin T K i a
act-origin T K zero a s is = absurd (omega (arith, (act-within (cut T K) 0 a is).0))
act-origin T K (suc m) a s is =
    let from = get-from T 0 K m is.0 s.rising (are-there T K s) is.1 in
    record { number = suc from.0; chosen = from.1; place = place-kept K from.0 s.rising from.1 ∙ ap suc from.2; is_act = (is.0, from.3, is.2) }

-- a chosen event that comes later comes later in the cut
pub placed-later : (T : Recording) (K : List ℕ) (m k : ℕ) → IsSubsequence T K → Has K k → m < k → matching_place K m < matching_place K k
placed-later T K m zero s h less = absurd (omega arith)
placed-later T K m (suc n) s h less = omega (arith, place-kept K n s.rising h, place-mono K m n (omega arith))

-- what is later in the cut is later in the trace
pub later-origin : (K : List ℕ) (m n : ℕ) → matching_place K m < matching_place K n → m < n
later-origin K m n less = elim (cases_lt m n) [ inl before ↦ before | inr after ↦ absurd (omega (arith, place-mono K n m after)) ]

-- a chosen event whose matching place comes by another's comes by that one
pub placed-by : (T : Recording) (K : List ℕ) (k n : ℕ) → IsSubsequence T K → Has K k → matching_place K k ≤ matching_place K n → k ≤ n
placed-by T K k n s h by = elim (cases_lt n k) [ inl before ↦ absurd (omega (arith, placed-later T K n k s h before)) | inr after ↦ after ]

-- the last one of the first n events that stores to a byte is so in the cut, if it is chosen
pub last-kept : (T : Recording) (K : List ℕ) (b n j : ℕ) → IsSubsequence T K → Has K j → last_store_number b (history T n) ≡ Some j →
    last_store_number b (history (cut T K) (matching_place K n)) ≡ Some (matching_place K j)
last-kept T K b n j s chosen is = last_store_number-from (cut T K) b (matching_place K n) (matching_place K j) (record {
  line = it.line;
  what = it.what;
  is_store = kept-act T K j (Stores it.line it.what) s chosen it.is_store;
  by_now = place-mono K j n it.by_now;
  writes_it = it.writes_it;
  last = λ k l w later by_now store.
      let o = act-origin T K k (Stores l w) s store in
      it.last o.number l w (later-origin K j o.number (omega (arith, later, o.place))) (placed-by T K o.number n s o.chosen (omega (arith, by_now, o.place))) o.is_act;
})
  where
    it : IsLastWriter T b n j
    it = last_store_number-is T b n j is

-- and what is so in the cut is so in the trace, if the last one there is chosen
pub last-from : (T : Recording) (K : List ℕ) (b n i : ℕ) → IsSubsequence T K → ((j : ℕ) → last_store_number b (history T n) ≡ Some j → Has K j) →
    last_store_number b (history (cut T K) (matching_place K n)) ≡ Some i → (j : ℕ) × (last_store_number b (history T n) ≡ Some j) × (matching_place K j ≡ i)
last-from T K b n i s chosen is = go (last_store_number b (history T n)) refl (last_store_number-tells T b n)
  where
    it : IsLastWriter (cut T K) b (matching_place K n) i
    it = last_store_number-is (cut T K) b (matching_place K n) i is

    go : (o : Option ℕ) → last_store_number b (history T n) ≡ o → LastWriter T b n o → (j : ℕ) × (last_store_number b (history T n) ≡ Some j) × (matching_place K j ≡ i)
    go None e none =
        let from = act-origin T K i (Stores it.line it.what) s it.is_store in
        absurd (none from.number it.line it.what (placed-by T K from.number n s from.chosen (omega (arith, it.by_now, from.place))) from.is_act it.writes_it)
    go (Some j) e found =
        let same : Some (matching_place K j) ≡ Some i = sym (last-kept T K b n j s (chosen j e) e) ∙ is in
        (j, e, cc)
