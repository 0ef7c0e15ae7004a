-- Some events of a part, by their numbers there and in the whole.
use Rattle.pmt_parts.proofs.Prelude.{◌≡◌, ℕ, zero, suc, ◌+◌, ◌-◌, ◌<◌, ◌≤◌, inl, inr, List, [], ◌∷◌, ◌++◌, length, take, Option, Some, None, filter_map, get_or, refl, sym, ap, subst, ◌∙◌, arith, ◌↔◌, take-suc, cases_lt, Event, Recording, event, IsRising, Has, cut, matching_place, has-above, place-low, IsSubsequence, kept-event, later-origin, number_in, through, place-in, place-out}

-- ---- One event

-- an event of the part has a number in the whole, whose matching place is its own
at-place : (low : ℕ) (K : List ℕ) (m : ℕ) → IsRising low K → m < length K → Has K (get_or K m 0) × (matching_place K (get_or K m 0) ≡ suc m)
at-place low [] m rising within = absurd (omega (arith, within))
at-place low (k ∷ ks) zero rising within = (inl refl, place-in k ks k (omega arith) ∙ ap suc (place-low k ks k rising.1 (omega arith)))
at-place low (k ∷ ks) (suc m) rising within =
    let x = at-place k ks m rising.1 (omega (arith, within)) in
    let above = has-above k ks (get_or ks m 0) rising.1 x.0 in
    (inr x.0, place-in k ks (get_or ks m 0) (omega (arith, above)) ∙ ap suc x.1)

pub at-number : (K : List ℕ) (i : ℕ) → IsRising 0 K → 0 < i → i ≤ length K → Has K (number_in K i) × (matching_place K (number_in K i) ≡ i)
at-number K zero rising some within = absurd (omega (arith, some))
at-number K (suc m) rising some within = let e : suc m - 1 ≡ m = omega arith in rw e (at-place 0 K m rising (omega (arith, within)))

-- and each number of the part is that of the event at its matching place
has-place : (low : ℕ) (K : List ℕ) (k : ℕ) → IsRising low K → Has K k → (m : ℕ) × (matching_place K k ≡ suc m) × (m < length K) × (get_or K m 0 ≡ k)
has-place low [] k rising has = absurd has
has-place low (j ∷ ks) k rising (inl e) = (0, place-in j ks k (omega (arith, e)) ∙ ap suc (place-low j ks k rising.1 (omega (arith, e))), omega arith, e)
has-place low (j ∷ ks) k rising (inr has) =
    let x = has-place j ks k rising.1 has in
    (suc x.0, place-in j ks k (omega (arith, has-above j ks k rising.1 has)) ∙ ap suc x.1, omega (arith, x.2), x.3)

pub number-of : (K : List ℕ) (k : ℕ) → IsRising 0 K → Has K k → (0 < matching_place K k) × (matching_place K k ≤ length K) × (number_in K (matching_place K k) ≡ k)
number-of K k rising has =
    let x = has-place 0 K k rising has in
    let e : suc x.0 - 1 ≡ x.0 = omega arith in
    (omega (arith, x.1), omega (arith, x.1, x.2), ap (λ i. get_or K (i - 1) 0) x.1 ∙ ap (λ i. get_or K i 0) e ∙ x.3)

-- ---- Some events

-- each is one of the part
abbrev pub AreIn : List ℕ → List ℕ → Type 0
AreIn K S = (i : ℕ) → Has S i → (0 < i) × (i ≤ length K)

rest-in : (K : List ℕ) (i : ℕ) (S : List ℕ) → AreIn K (i ∷ S) → AreIn K S
rest-in K i S inside j has = inside j (inr has)

through-from : (K S : List ℕ) (k : ℕ) → Has (through K S) k → (i : ℕ) × Has S i × (number_in K i ≡ k)
through-from K [] k has = absurd has
through-from K (i ∷ S) k (inl e) = (i, inl refl, e)
through-from K (i ∷ S) k (inr has) = let x = through-from K S k has in (x.0, inr x.1, x.2)

through-has : (K S : List ℕ) (i : ℕ) → Has S i → Has (through K S) (number_in K i)
through-has K [] i has = absurd has
through-has K (j ∷ S) i (inl e) = inl (ap (number_in K) e)
through-has K (j ∷ S) i (inr has) = inr (through-has K S i has)

pub has-through : (K S : List ℕ) (k : ℕ) → IsRising 0 K → AreIn K S → Has (through K S) k ↔ (Has K k × Has S (matching_place K k))
has-through K S k rising inside = (
  λ has.
      let x = through-from K S k has in
      let within = inside x.0 x.1 in
      let at = at-number K x.0 rising within.0 within.1 in
      let place : matching_place K k ≡ x.0 = ap (matching_place K) (sym x.2) ∙ at.1 in
      (subst (Has K) x.2 at.0, subst (Has S) (sym place) x.1),
  λ x. subst (Has (through K S)) (number-of K k rising x.0).2 (through-has K S (matching_place K k) x.1),
)

number-mono : (K : List ℕ) (i j : ℕ) → IsRising 0 K → 0 < i → i < j → j ≤ length K → number_in K i < number_in K j
number-mono K i j rising some less within =
    let a = at-number K i rising some (omega (arith, less, within)) in
    let b = at-number K j rising (omega (arith, some, less)) within in
    later-origin K (number_in K i) (number_in K j) (omega (arith, a.1, b.1, less))

rising-after : (K : List ℕ) (i : ℕ) (S : List ℕ) → IsRising 0 K → 0 < i → IsRising i S → AreIn K S → IsRising (number_in K i) (through K S)
rising-after K i [] rising some above inside = tt
rising-after K i (j ∷ S) rising some above inside = (
  number-mono K i j rising some above.0 (inside j (inl refl)).1,
  rising-after K j S rising (omega (arith, some, above.0)) above.1 (rest-in K j S inside),
)

pub rising-through : (K S : List ℕ) → IsRising 0 K → IsRising 0 S → AreIn K S → IsRising 0 (through K S)
rising-through K [] rising above inside = tt
rising-through K (i ∷ S) rising above inside =
    let within = inside i (inl refl) in
    (has-above 0 K (number_in K i) rising (at-number K i rising within.0 within.1).0, rising-after K i S rising within.0 above.1 (rest-in K i S inside))

-- ---- The trace of them

event-in : (T : Recording) (K : List ℕ) (i : ℕ) → IsSubsequence T K → 0 < i → i ≤ length K → event (cut T K) i ≡ event T (number_in K i)
event-in T K i s some within =
    let at = at-number K i s.rising some within in
    ap (event (cut T K)) (sym at.1) ∙ kept-event T K (number_in K i) s at.0

events-through : (T : Recording) (K S : List ℕ) → IsSubsequence T K → AreIn K S → filter_map (event (cut T K)) S ≡ filter_map (event T) (through K S)
events-through T K [] s inside = refl
events-through T K (i ∷ S) s inside = go (event T (number_in K i)) refl (events-through T K S s (rest-in K i S inside))
  where
    same : event (cut T K) i ≡ event T (number_in K i)
    same = let within = inside i (inl refl) in event-in T K i s within.0 within.1

    go : (o : Option Event) → event T (number_in K i) ≡ o → filter_map (event (cut T K)) S ≡ filter_map (event T) (through K S) →
        filter_map (event (cut T K)) (i ∷ S) ≡ filter_map (event T) (number_in K i ∷ through K S)
    go None e rest = rw (same, e, rest) refl
    go (Some x) e rest = rw (same, e, rest) refl

-- the cut of a cut
pub cut-through : (T : Recording) (K S : List ℕ) → IsSubsequence T K → AreIn K S → cut (cut T K) S ≡ cut T (through K S)
cut-through T K S s inside = ap (λ es. record { format = T.format; events = es }) (events-through T K S s inside)

-- ---- How many come by a place

place-one : (k n : ℕ) (K : List ℕ) → matching_place (K ++ k ∷ []) n ≡ matching_place K n + matching_place (k ∷ []) n
place-one k n [] = omega arith
place-one k n (j ∷ K) = elim (cases_lt n j) [
  | inl after ↦ place-out j (K ++ k ∷ []) n after ∙ place-one k n K ∙ ap (λ m. m + matching_place (k ∷ []) n) (sym (place-out j K n after))
  | inr by ↦ omega (arith, place-in j (K ++ k ∷ []) n by, place-in j K n by, place-one k n K)
]

pub place-next-in : (K : List ℕ) (i n : ℕ) → i < length K → get_or K i 0 ≤ n → matching_place (take (i + 1) K) n ≡ matching_place (take i K) n + 1
place-next-in K i n within by =
    let next : i + 1 ≡ suc i = omega arith in
    ap (λ k. matching_place (take k K) n) next ∙ ap (λ xs. matching_place xs n) (take-suc K i 0 within) ∙ place-one (get_or K i 0) n (take i K) ∙ ap (λ m. matching_place (take i K) n + m) (place-in (get_or K i 0) [] n by)

pub place-next-out : (K : List ℕ) (i n : ℕ) → i < length K → n < get_or K i 0 → matching_place (take (i + 1) K) n ≡ matching_place (take i K) n
place-next-out K i n within after =
    let next : i + 1 ≡ suc i = omega arith in
    let none : matching_place (get_or K i 0 ∷ []) n ≡ 0 = place-out (get_or K i 0) [] n after in
    ap (λ k. matching_place (take k K) n) next ∙ ap (λ xs. matching_place xs n) (take-suc K i 0 within) ∙ omega (arith, place-one (get_or K i 0) n (take i K), none)
