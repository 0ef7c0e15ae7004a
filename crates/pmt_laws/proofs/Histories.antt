-- The history of a trace, event by event, and what it can do to counts, marks and fronts.
use Rattle.std.proofs.Common.{◌≡◌, ℕ, zero, suc, ◌<◌, ◌≤◌, ◌⊎◌, inl, inr, Bool, true, false, List, [], ◌∷◌, ◌++◌, length, Option, Some, None, take, map, reverse, refl, sym, ap, ◌∙◌, arith}
use Rattle.std.specs.Prelude.{slice_get, if◌then◌else◌, ◌==◌, ◌&&◌}
use Rattle.std.proofs.Math.Seq.{take-suc}
use Rattle.std.proofs.lemmas.List.{reverse-append, map-append, length-reverse, length-map, length-take, take_all}
use Rattle.std.proofs.lemmas.Option.{slice_get_within, slice_get_past, get_or_from_slice_get, none-some, same_Some}
use Rattle.pmt_laws.specs.Prelude.{Event, Act, Stores, Flushes, Clflushes, Fences, count, Recording, act, event, IsAct, history, count_at, mark, front, front_at}

-- one more element, newest first
newest-first : {A B : Type 0} (f : A → B) (xs : List A) (n : ℕ) (x : A) → slice_get xs n ≡ Some x → reverse (map f (take (suc n) xs)) ≡ f x ∷ reverse (map f (take n xs))
newest-first f xs n x is =
    let within = slice_get_within xs n x is in
    let taken = take-suc xs n x within ∙ ap (λ y. take n xs ++ (y ∷ [])) (get_or_from_slice_get xs n x x is) in
    ap (λ ys. reverse (map f ys)) taken ∙ ap reverse (map-append f (take n xs) (x ∷ [])) ∙ reverse-append (map f (take n xs)) (f x ∷ [])

-- an event is added to the history by its act
pub history-suc : (T : Recording) (n : ℕ) (e : Event) → event T (suc n) ≡ Some e → history T (suc n) ≡ act T.format e ∷ history T n
history-suc T n e is = newest-first (act T.format) T.events n e is

-- there is an event at each number up to the length
pub event-some : (T : Recording) (n : ℕ) → n < length T.events → (e : Event) × (event T (suc n) ≡ Some e)
event-some T n within = from_get T.events n within
  where
    from_get : (xs : List Event) (i : ℕ) → i < length xs → (e : Event) × (slice_get xs i ≡ Some e)
    from_get [] i h = absurd (omega arith)
    from_get (x ∷ xs) zero h = (x, refl)
    from_get (x ∷ xs) (suc i) h = from_get xs i (omega arith)

-- there is no event past the length
pub event-none : (T : Recording) (n : ℕ) → length T.events ≤ n → event T (suc n) ≡ None
event-none T n past = slice_get_past T.events n past

-- an event's number is within the length
pub event-within : (T : Recording) (n : ℕ) (e : Event) → event T (suc n) ≡ Some e → n < length T.events
event-within T n e is = slice_get_within T.events n e is

-- a list that has nothing at a place ends there or before
none-past : (xs : List Event) (i : ℕ) → slice_get xs i ≡ None → length xs ≤ i
none-past [] i h = omega arith
none-past (x ∷ xs) zero h = absurd (none-some x (sym h))
none-past (x ∷ xs) (suc i) h = omega (arith, none-past xs i h)

-- where there is no event, the events have ended
pub event-beyond : (T : Recording) (n : ℕ) → event T (suc n) ≡ None → length T.events ≤ n
event-beyond T n none = none-past T.events n none

-- past the length all places have the same history
pub history-past : (T : Recording) (n : ℕ) → event T (suc n) ≡ None → history T (suc n) ≡ history T n
history-past T n none =
    let past = event-beyond T n none in
    let longer = take_all (suc n) T.events (omega arith) in
    let as_long = take_all n T.events past in
    ap (λ xs. reverse (map (act T.format) xs)) (longer ∙ sym as_long)

-- an event has one act
pub act-unique : (T : Recording) (i : ℕ) (a b : Act) → IsAct T i a → IsAct T i b → a ≡ b
act-unique T i a b x y = sym (x.2) ∙ ap (act T.format) (same_Some x.0 y.0 (sym x.1 ∙ y.1)) ∙ y.2

-- an act's number is one of those of the events
pub act-within : (T : Recording) (i : ℕ) (a : Act) → IsAct T i a → (1 ≤ i) × (i ≤ length T.events)
act-within T zero a x = absurd (none-some x.0 x.1)
act-within T (suc i) a x = let within = event-within T i x.0 x.1 in (omega arith, within)

-- an act is added to the history
pub history-act : (T : Recording) (n : ℕ) (a : Act) → IsAct T (suc n) a → history T (suc n) ≡ a ∷ history T n
history-act T n a x = history-suc T n x.0 x.1 ∙ ap (λ b. b ∷ history T n) x.2

-- each place past the first adds an act, or none past the length
pub history-step : (T : Recording) (n : ℕ) → ((a : Act) × IsAct T (suc n) a) ⊎ ((length T.events ≤ n) × (history T (suc n) ≡ history T n))
history-step T n = go (event T (suc n)) refl
  where
    go : (o : Option Event) → event T (suc n) ≡ o → ((a : Act) × IsAct T (suc n) a) ⊎ ((length T.events ≤ n) × (history T (suc n) ≡ history T n))
    go None none = inr (event-beyond T n none, history-past T n none)
    go (Some e) is = inl (act T.format e, (e, is, refl))

-- the history of n events has n acts
pub length-history : (T : Recording) (n : ℕ) → n ≤ length T.events → length (history T n) ≡ n
length-history T n h = length-reverse (map (act T.format) (take n T.events)) ∙ length-map (take n T.events) (act T.format) ∙ omega (arith, length-take n T.events)

-- a choice between two numbers is at least what both are
least_choice : (b : Bool) (x y z : ℕ) → z ≤ x → z ≤ y → z ≤ (if b then x else y)
least_choice true x y z p q = p
least_choice false x y z p q = q

-- a choice between two numbers is at most what both are
greatest_choice : (b : Bool) (x y z : ℕ) → x ≤ z → y ≤ z → (if b then x else y) ≤ z
greatest_choice true x y z p q = p
greatest_choice false x y z p q = q

-- an act lowers no count
pub count-grows : (l : ℕ) (a : Act) (h : List Act) → count l h ≤ count l (a ∷ h)
count-grows l (Stores k w) h = least_choice (k == l) (suc (count l h)) (count l h) (count l h) (omega arith) (omega arith)
count-grows l a h = omega arith

-- a mark is at most the count
pub mark-le-count : (t l : ℕ) (h : List Act) → mark t l h ≤ count l h
mark-le-count t l [] = omega arith
mark-le-count t l (Stores k w ∷ h) = omega (arith, mark-le-count t l h, count-grows l (Stores k w) h)
mark-le-count t l (Flushes u k ∷ h) = greatest_choice ((u == t) && (k == l)) (count l h) (mark t l h) (count l h) (omega arith) (mark-le-count t l h)
mark-le-count t l (a ∷ h) = mark-le-count t l h

-- the front is at most the count
pub front-le-count : (l : ℕ) (h : List Act) → front l h ≤ count l h
front-le-count l [] = omega arith
front-le-count l (Stores k w ∷ h) = omega (arith, front-le-count l h, count-grows l (Stores k w) h)
front-le-count l (Clflushes k ∷ h) = greatest_choice (k == l) (count l h) (front l h) (count l h) (omega arith) (front-le-count l h)
front-le-count l (Fences t ∷ h) = omega (arith, front-le-count l h, mark-le-count t l h)
front-le-count l (a ∷ h) = front-le-count l h

-- an act lowers no front
pub front-grows : (l : ℕ) (a : Act) (h : List Act) → front l h ≤ front l (a ∷ h)
front-grows l (Clflushes k) h = least_choice (k == l) (count l h) (front l h) (front l h) (front-le-count l h) (omega arith)
front-grows l a h = omega arith

-- at most the next number is that number or at most this one
equal_or_less : (m n : ℕ) → m ≤ suc n → (m ≡ suc n) ⊎ (m ≤ n)
equal_or_less m n h = grind arith

-- a number that no act lowers doesn't fall from one place to the next
grown-from_grows : (T : Recording) (f : List Act → ℕ) → ((a : Act) (h : List Act) → f h ≤ f (a ∷ h)) → (n : ℕ) → f (history T n) ≤ f (history T (suc n))
grown-from_grows T f grows n =
    elim (history-step T n) [
      | inl x ↦ rw (history-act T n x.0 x.1) (grows x.0 (history T n))
      | inr x ↦ rw x.1 (omega arith)
    ]

-- a number read off a history that no act lowers doesn't fall from place to place
pub mono-from_grows : (T : Recording) (f : List Act → ℕ) → ((a : Act) (h : List Act) → f h ≤ f (a ∷ h)) → (m n : ℕ) → m ≤ n → f (history T m) ≤ f (history T n)
mono-from_grows T f grows m zero h = let e : m ≡ zero = omega arith in rw e (omega arith)
mono-from_grows T f grows m (suc n) h =
    elim (equal_or_less m n h) [
      | inl e ↦ rw e (omega arith)
      | inr less ↦ omega (arith, mono-from_grows T f grows m n less, grown-from_grows T f grows n)
    ]

-- counts don't fall from place to place
pub count-mono : (T : Recording) (l m n : ℕ) → m ≤ n → count_at T l m ≤ count_at T l n
count-mono T l m n h = mono-from_grows T (count l) (count-grows l) m n h

-- fronts don't fall from place to place
pub front-mono : (T : Recording) (l m n : ℕ) → m ≤ n → front_at T l m ≤ front_at T l n
front-mono T l m n h = mono-from_grows T (front l) (front-grows l) m n h
