-- Places and events of a trace, and the matching ones of the trace cut to a selection.
use Rattle.std.proofs.Common.{◌≡◌, ℕ, zero, suc, ◌<◌, ◌≤◌, ◌⊎◌, ◌==◌, false, if◌then◌else◌, List, [], ◌∷◌, length, Some, slice_get, filter_map, refl, sym, ◌∙◌, ap, inl, inr, arith}
use Rattle.std.proofs.lemmas.Bool.{le-leb, lt-leb, cases_eq, cases_lt, false_from_ne_true, true≢false}
use Rattle.std.proofs.lemmas.Bool.Decides.{nat_tests}
use Rattle.pmt_laws.specs.Prelude.{Event, Act, Stores, Asserts, count, Recording, event, IsAct, history, count_at, IsRising, Has, always_stays, IsSelection, cut, matching_place}
use Rattle.pmt_laws.proofs.Histories.{event-some, history-act, history-step}

-- A number stands in the list or not.
pub has-dec : (K : List ℕ) (n : ℕ) → Has K n ⊎ (Has K n → ⊥)
has-dec [] n = inr (λ h. h)
has-dec (hd ∷ tl) n = grind (arith, nat_tests, cases_eq, has-dec tl n)

-- A rising list has only numbers above its bound.
pub has-above : (low : ℕ) (K : List ℕ) (n : ℕ) → IsRising low K → Has K n → low < n
has-above low [] n r h = absurd h
has-above low (k ∷ ks) n r (inl e) = let lt : low < k = r.0 in omega arith
has-above low (k ∷ ks) n r (inr h) = let lt : low < k = r.0 in let above : k < n = has-above k ks n r.1 h in omega arith

-- One more of the numbers is at most n.
place-in : (k : ℕ) (ks : List ℕ) (n : ℕ) → k ≤ n → matching_place (k ∷ ks) n ≡ suc (matching_place ks n)
place-in k ks n h = rw (le-leb k n h) refl

-- A number above n does not count.
place-out : (k : ℕ) (ks : List ℕ) (n : ℕ) → n < k → matching_place (k ∷ ks) n ≡ matching_place ks n
place-out k ks n h = rw (lt-leb k n h) refl

-- No number of a list that rises from n or more is at most n.
pub place-low : (low : ℕ) (K : List ℕ) (n : ℕ) → IsRising low K → n ≤ low → matching_place K n ≡ 0
place-low low [] n r h = refl
place-low low (k ∷ ks) n r h =
    let lt : low < k = r.0 in place-out k ks n (omega arith) ∙ place-low k ks n r.1 (omega arith)

-- A kept number moves the matching place on.
place-kept_from : (low : ℕ) (K : List ℕ) (n : ℕ) → IsRising low K → Has K (suc n) → matching_place K (suc n) ≡ suc (matching_place K n)
place-kept_from low [] n r h = absurd h
place-kept_from low (k ∷ ks) n r (inl e) =
    place-in k ks (suc n) (omega arith) ∙ ap suc (place-low k ks (suc n) r.1 (omega arith) ∙ sym (place-low k ks n r.1 (omega arith)) ∙ sym (place-out k ks n (omega arith)))
place-kept_from low (k ∷ ks) n r (inr h) =
    let above : k < suc n = has-above k ks (suc n) r.1 h in
    place-in k ks (suc n) (omega arith) ∙ ap suc (place-kept_from k ks n r.1 h ∙ sym (place-in k ks n (omega arith)))

-- The matching place moves on at a kept number.
pub place-kept : (K : List ℕ) (n : ℕ) → IsRising 0 K → Has K (suc n) → matching_place K (suc n) ≡ suc (matching_place K n)
place-kept K n r h = place-kept_from 0 K n r h

-- The matching place stays at a number that is not kept.
pub place-dropped : (K : List ℕ) (n : ℕ) → (Has K (suc n) → ⊥) → matching_place K (suc n) ≡ matching_place K n
place-dropped [] n h = refl
place-dropped (hd ∷ tl) n h = grind (arith, nat_tests, place-in, place-out, cases_lt, place-dropped tl n (λ has. h (inr has)))

-- A later place has a later matching place.
pub place-mono : (K : List ℕ) (m n : ℕ) → m ≤ n → matching_place K m ≤ matching_place K n
place-mono [] m n h = omega arith
place-mono (hd ∷ tl) m n h = grind (arith, nat_tests, cases_lt, place-out, place-in, place-mono tl m n h)

-- Each number is that of an event.
abbrev AreThere : Recording → List ℕ → Type 0
AreThere T K = (k : ℕ) → Has K k → (e : Event) × (event T k ≡ Some e)

-- The numbers of a selection are numbers of events.
are-there : (T : Recording) (K : List ℕ) → IsSelection T K → AreThere T K
are-there T K s zero h = let above : 0 < 0 = has-above 0 K 0 s.rising h in absurd (omega arith)
are-there T K s (suc n) h = let le : suc n ≤ length T.events = s.within (suc n) h in event-some T n (omega arith)

-- The events of a cut, the first number's first.
events-cons : (T : Recording) (k : ℕ) (ks : List ℕ) (e : Event) → event T k ≡ Some e → filter_map (event T) (k ∷ ks) ≡ e ∷ filter_map (event T) ks
events-cons T k ks e h = rw h refl

-- Where an event that is kept stands in the cut.
get-kept : (T : Recording) (low : ℕ) (K : List ℕ) (n : ℕ) → IsRising low K → AreThere T K → Has K (suc n) →
    slice_get (filter_map (event T) K) (matching_place K n) ≡ event T (suc n)
get-kept T low [] n r there h = absurd h
get-kept T low (k ∷ ks) n r there (inl e) =
    let first = there k (inl refl) in
    let place : matching_place (k ∷ ks) n ≡ 0 = place-out k ks n (omega arith) ∙ place-low k ks n r.1 (omega arith) in
    ap (slice_get (filter_map (event T) (k ∷ ks))) place ∙ ap (λ xs. slice_get xs 0) (events-cons T k ks first.0 first.1) ∙ sym first.1 ∙ ap (event T) e
get-kept T low (k ∷ ks) n r there (inr h) =
    let first = there k (inl refl) in
    let above : k < suc n = has-above k ks (suc n) r.1 h in
    ap (slice_get (filter_map (event T) (k ∷ ks))) (place-in k ks n (omega arith)) ∙ ap (λ xs. slice_get xs (suc (matching_place ks n))) (events-cons T k ks first.0 first.1)
    ∙ get-kept T k ks n r.1 (λ j has. there j (inr has)) h

-- A kept event stands in the cut, right after the matching place of the place before it.
pub cut-event : (T : Recording) (K : List ℕ) (n : ℕ) (e : Event) → IsSelection T K → Has K (suc n) → event T (suc n) ≡ Some e →
    event (cut T K) (suc (matching_place K n)) ≡ Some e
cut-event T K n e s h is = get-kept T 0 K n s.rising (are-there T K s) h ∙ is

-- Which event of the trace one of the cut is.
abbrev ComesFrom : Recording → List ℕ → ℕ → Event → Type 0
ComesFrom T K m e = (n : ℕ) × Has K (suc n) × (matching_place K n ≡ m) × (event T (suc n) ≡ Some e)

get-from : (T : Recording) (low : ℕ) (K : List ℕ) (m : ℕ) (e : Event) → IsRising low K → AreThere T K → slice_get (filter_map (event T) K) m ≡ Some e → ComesFrom T K m e
get-from T low [] m e r there is = absurd (cc)
get-from T low (zero ∷ ks) m e r there is = let above : low < 0 = r.0 in absurd (omega arith)
get-from T low (suc j ∷ ks) zero e r there is =
    let first = there (suc j) (inl refl) in
    (j, inl refl, place-out (suc j) ks j (omega arith) ∙ place-low (suc j) ks j r.1 (omega arith), first.1 ∙ ap (λ xs. slice_get xs 0) (sym (events-cons T (suc j) ks first.0 first.1)) ∙ is)
get-from T low (suc j ∷ ks) (suc m) e r there is =
    let first = there (suc j) (inl refl) in
    let further = get-from T (suc j) ks m e r.1 (λ k has. there k (inr has)) (ap (λ xs. slice_get xs (suc m)) (sym (events-cons T (suc j) ks first.0 first.1)) ∙ is) in
    let above : suc j < suc (further.0) = has-above (suc j) ks (suc (further.0)) r.1 further.1 in
    (further.0, inr further.1, place-in (suc j) ks further.0 (omega arith) ∙ ap suc further.2, further.3)

-- Each event of the cut is a kept event of the trace.
pub cut-from : (T : Recording) (K : List ℕ) (m : ℕ) (e : Event) → IsSelection T K → event (cut T K) (suc m) ≡ Some e →
    (n : ℕ) × Has K (suc n) × (matching_place K n ≡ m) × (event T (suc n) ≡ Some e)
cut-from T K m e s is = get-from T 0 K m e s.rising (are-there T K s) is

-- An act of a kept event is one of the cut.
pub cut-act : (T : Recording) (K : List ℕ) (n : ℕ) (a : Act) → IsSelection T K → Has K (suc n) → IsAct T (suc n) a → IsAct (cut T K) (suc (matching_place K n)) a
cut-act T K n a s h is = (is.0, cut-event T K n is.0 s h is.1, is.2)

-- At a kept event the history of the cut grows by the same act.
pub history-kept : (T : Recording) (K : List ℕ) (n : ℕ) (a : Act) → IsSelection T K → Has K (suc n) → IsAct T (suc n) a →
    history (cut T K) (matching_place K (suc n)) ≡ a ∷ history (cut T K) (matching_place K n)
history-kept T K n a s h is =
    ap (history (cut T K)) (place-kept K n s.rising h) ∙ history-act (cut T K) (matching_place K n) a (cut-act T K n a s h is)

-- At an event that is not kept the history of the cut stays.
pub history-dropped : (T : Recording) (K : List ℕ) (n : ℕ) → (Has K (suc n) → ⊥) → history (cut T K) (matching_place K (suc n)) ≡ history (cut T K) (matching_place K n)
history-dropped T K n h = ap (history (cut T K)) (place-dropped K n h)

-- What the next place brings to the history of the trace and to that of the cut: an act that is kept, one that is not, or
-- nothing, past the end of the trace.
pub data IsNext (T : Recording) (K : List ℕ) (n : ℕ) : Type 0 where
  Keeps : (a : Act) → IsAct T (suc n) a → Has K (suc n) → history T (suc n) ≡ a ∷ history T n →
      history (cut T K) (matching_place K (suc n)) ≡ a ∷ history (cut T K) (matching_place K n) → IsNext T K n
  Drops : (a : Act) → IsAct T (suc n) a → (Has K (suc n) → ⊥) → always_stays a ≡ false → history T (suc n) ≡ a ∷ history T n →
      history (cut T K) (matching_place K (suc n)) ≡ history (cut T K) (matching_place K n) → IsNext T K n
  Ended : history T (suc n) ≡ history T n → history (cut T K) (matching_place K (suc n)) ≡ history (cut T K) (matching_place K n) → IsNext T K n

-- One of the three holds.
pub next-step : (T : Recording) (K : List ℕ) (n : ℕ) → IsSelection T K → IsNext T K n
next-step T K n s = go (history-step T n) (has-dec K (suc n))
  where
    go : ((a : Act) × IsAct T (suc n) a) ⊎ ((length T.events ≤ n) × (history T (suc n) ≡ history T n)) → Has K (suc n) ⊎ (Has K (suc n) → ⊥) → IsNext T K n
    go (inl x) (inl h) = Keeps x.0 x.1 h (history-act T n x.0 x.1) (history-kept T K n x.0 s h x.1)
    go (inl x) (inr h) =
        Drops x.0 x.1 h (false_from_ne_true (always_stays x.0) (λ stays. h (s.whole (suc n) x.0 x.1 stays))) (history-act T n x.0 x.1) (history-dropped T K n h)
    go (inr x) (inl h) = let le : suc n ≤ length T.events = s.within (suc n) h in let past : length T.events ≤ n = x.0 in absurd (omega arith)
    go (inr x) (inr h) = Ended x.1 (history-dropped T K n h)

-- At place 0 the history of the cut is empty too.
pub history-zero : (T : Recording) (K : List ℕ) → IsSelection T K → history (cut T K) (matching_place K 0) ≡ []
history-zero T K s = ap (history (cut T K)) (place-low 0 K 0 s.rising (omega arith))

-- One more act brings equal counts to equal counts.
count-same : (l : ℕ) (a : Act) (g h : List Act) → count l g ≡ count l h → count l (a ∷ g) ≡ count l (a ∷ h)
count-same l (Stores k w) g h e = ap (λ c. if k == l then suc c else c) e
count-same l a g h e = e

-- An act that need not stay is no store.
count-dropped : (l : ℕ) (a : Act) (h : List Act) → always_stays a ≡ false → count l (a ∷ h) ≡ count l h
count-dropped l (Stores k w) h e = absurd (true≢false e)
count-dropped l Asserts h e = absurd (true≢false e)
count-dropped l a h e = refl

-- The cut has the same counts of stores at matching places.
pub count-cut : (T : Recording) (K : List ℕ) (l n : ℕ) → IsSelection T K → count_at (cut T K) l (matching_place K n) ≡ count_at T l n
count-cut T K l zero s = ap (count l) (history-zero T K s)
count-cut T K l (suc nn) s = grind (arith, nat_tests, history-zero, next-step, count-same, count-dropped, count-cut T K l nn s)
