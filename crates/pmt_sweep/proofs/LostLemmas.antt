-- What entries tell at the end: which stores are never persisted, and from which place on each other one is safe.
use Rattle.std.proofs.Common.{◌≡◌, ℕ, suc, ◌<◌, ◌≤◌, ◌⊎◌, inl, inr, ◌==◌, Bool, true, false, List, [], ◌∷◌, ◌++◌, length, Option, map, reverse, Some, None, refl, sym, ap, subst, ◌∙◌, arith}
use Rattle.std.specs.Prelude.{◌↔◌, IsTrue, nat_lt, if◌then◌else◌, slice_index}
use Rattle.std.proofs.lemmas.Bool.{cases_lt, ltb-true, lt-ltb, ne_eqb}
use Rattle.std.proofs.lemmas.List.{append-nil, drop_all, take_all}
use Rattle.pmt_laws.specs.Prelude.{Finding, Overwritten, NeverPersisted, RedundantFlush, FenceWithoutFlush, Written, Act, State, Ends, Stores, Flushes, Clflushes, Fences, Asserts, Recording, IsAct, act, event_limit, history, count_at, IsFlushOf, ByFlush, ByClflush, IsFlushedAfter, IsSafe, last_flush, reported_at, IsReportedBefore, InReportOrder, HasFinding, IsFinding, refill}
use Rattle.pmt_laws.proofs.Histories.{act-unique, act-within, event-some}
use Rattle.pmt_laws.proofs.OverwrittenLemmas.{IsLastFlush, last_flush-tells}
use Rattle.pmt_safety.specs.Safety.{safe_store_at}
use Rattle.pmt_safety.proofs.RedundantLemmas.{never_persisted_by_stores}
use Rattle.pmt_safety.proofs.SafetyLemmas.{safe-up_to, safe-later}
use Rattle.pmt_sweep.specs.Found.{is_known_late, AreKnownLate}
use Rattle.pmt_sweep.specs.Entries.{tells_lost, place_in, IsSafePlace, AreSafePlaces, IsLost, AreLostAfter, AreMarked, lost_at}
use Rattle.pmt_sweep.proofs.MarkedLemmas.{same-line}

-- ---- Entries

-- the number of a place tells no loss
place-tells : (e n : ℕ) → 1 ≤ e → e ≤ n → n ≤ event_limit → tells_lost e ≡ false
place-tells e n some by_now few = let low = ne_eqb e 0 (omega (arith, some)) in let high = ne_eqb e 4294967295 (omega (arith, by_now, few)) in rw (low, high) refl

-- the entry of a lost store does
lost-tells : (b : Bool) → tells_lost (if b then 4294967295 else 0) ≡ true
lost-tells true = refl
lost-tells false = refl

-- an event is a lost store, or is none to any line
lost-or-not : (T : Recording) (i : ℕ) → i < length T.events → ((l : ℕ) × IsLost T l (suc i)) ⊎ ((l : ℕ) → ¬ IsLost T l (suc i))
lost-or-not T i within = let e = event-some T i within in go (act T.format e.0) (e.0, e.1, refl)
  where
    other : (a : Act) → IsAct T (suc i) a → ((l : ℕ) (w : Written) → a ≡ Stores l w → ⊥) → ((l : ℕ) × IsLost T l (suc i)) ⊎ ((l : ℕ) → ¬ IsLost T l (suc i))
    other a is none = inr (λ l lost. none l lost.what (act-unique T (suc i) a (Stores l lost.what) is lost.is_store))

    go : (a : Act) → IsAct T (suc i) a → ((l : ℕ) × IsLost T l (suc i)) ⊎ ((l : ℕ) → ¬ IsLost T l (suc i))
    go (Stores l w) is = elim (cases_lt (safe_store_at T l (length T.events)) (suc i)) [
      | inl later ↦ inl (l, record { what = w; is_store = is; later = later })
      | inr safe ↦ inr (λ k lost.
          let line = same-line T k l (suc i) lost.what w lost.is_store is in
          let later : safe_store_at T l (length T.events) < suc i = subst (λ m. safe_store_at T m (length T.events) < suc i) line lost.later in
          omega (arith, later, safe))
    ]
    go (Flushes t k) is = other (Flushes t k) is (λ l w same. cc)
    go (Clflushes k) is = other (Clflushes k) is (λ l w same. cc)
    go (Fences t) is = other (Fences t) is (λ l w same. cc)
    go Asserts is = other Asserts is (λ l w same. cc)

-- ---- From which place on

-- after the last event nothing changes
history-end : (T : Recording) (n : ℕ) → length T.events ≤ n → history T n ≡ history T (length T.events)
history-end T n past = ap (λ events. reverse (map (act T.format) events)) (take_all n T.events past ∙ sym (take_all (length T.events) T.events (omega arith)))

-- a lost store is safe at no place
lost-never : (T : Recording) (l j : ℕ) → IsLost T l j → (n : ℕ) → ¬ IsSafe T l n j
lost-never T l j lost n safe = elim (cases_lt (length T.events) n) [
  | inl past ↦
      let P : List Act → Type 0 = λ h. (s : State) → Ends h s → count_at T l j ≤ s.persisted l in
      at_end (subst P (history-end T n (omega (arith, past))) safe)
  | inr within ↦ at_end (safe-later T l n (length T.events) j within safe)
]
  where
    at_end : IsSafe T l (length T.events) j → ⊥
    at_end safe_then = omega (arith, lost.later, (safe-up_to T l (length T.events) j lost.what lost.is_store).0 safe_then)

pub safe-places : (T : Recording) (entries : List ℕ) → AreMarked T entries → AreSafePlaces T entries
safe-places T entries marked = record {
  many = marked.many;
  each = λ l j w is. elim (cases_lt (safe_store_at T l (length T.events)) j) [
    | inl later ↦ lost l j (record { what = w; is_store = is; later = later })
    | inr safe ↦ safe_one l j w is safe
  ];
}
  where
    lost : (l j : ℕ) → IsLost T l j → IsSafePlace T l j (place_in (slice_index entries j))
    lost l j it =
        let tells : tells_lost (slice_index entries j) ≡ true = ap tells_lost (marked.lost l j it) ∙ lost-tells (nat_lt j (last_flush l (history T (length T.events)))) in
        let none : place_in (slice_index entries j) ≡ None = ap (λ b. if b then None else Some (slice_index entries j)) tells in
        subst (IsSafePlace T l j) (sym none) (lost-never T l j it)

    safe_one : (l j : ℕ) (w : Written) → IsAct T j (Stores l w) → j ≤ safe_store_at T l (length T.events) → IsSafePlace T l j (place_in (slice_index entries j))
    safe_one l j w is safe =
        let within = act-within T j (Stores l w) is in
        let place = marked.others j within.0 within.1 (λ k it.
        let line = same-line T k l j it.what w it.is_store is in
        let later : safe_store_at T l (length T.events) < j = subst (λ m. safe_store_at T m (length T.events) < j) line it.later in
        omega (arith, later, safe)) in
        let tells : tells_lost (slice_index entries j) ≡ false = place-tells (slice_index entries j) (length T.events) place.0 place.1 marked.trace.few in
        let some : place_in (slice_index entries j) ≡ Some (slice_index entries j) = ap (λ b. if b then None else Some (slice_index entries j)) tells in
        subst (IsSafePlace T l j) (sym some) (marked.safe l j w is safe)

-- what is told of an event, by its entry
pub place-told : (j entry : ℕ) (entries : List ℕ) (b : Bool) → entry ≡ slice_index entries j → b ≡ tells_lost entry → (if b then None else Some entry) ≡ place_in (slice_index entries j)
place-told j entry entries b read told = ap (λ t. if t then None else Some entry) told ∙ ap place_in read

-- and of a store
pub safe-told : (T : Recording) (l j : ℕ) (w : Written) (entries : List ℕ) (place : Option ℕ) → AreSafePlaces T entries → IsAct T j (Stores l w) → place ≡ place_in (slice_index entries j) → IsSafePlace T l j place
safe-told T l j w entries place safe is told = subst (IsSafePlace T l j) (sym told) (safe.each l j w is)

-- a slice of all items that was changed
pub refill-all : (n : ℕ) (xs ws : List ℕ) → n ≡ length xs → length ws ≡ length xs → refill n xs ws ≡ ws
refill-all n xs ws all same = rw (drop_all (length ws) xs (omega arith), append-nil ws) (take_all n ws (omega (arith, all, same)))

-- ---- Lists of findings

has-append : (xs ys : List Finding) (f : Finding) → HasFinding (xs ++ ys) f → HasFinding xs f ⊎ HasFinding ys f
has-append [] ys f has = inr has
has-append (x ∷ xs) ys f (inl e) = inl (inl e)
has-append (x ∷ xs) ys f (inr has) = elim (has-append xs ys f has) [ inl h ↦ inl (inr h) | inr h ↦ inr h ]

has-left : (xs ys : List Finding) (f : Finding) → HasFinding xs f → HasFinding (xs ++ ys) f
has-left [] ys f none = absurd none
has-left (x ∷ xs) ys f (inl e) = inl e
has-left (x ∷ xs) ys f (inr has) = inr (has-left xs ys f has)

has-last : (xs : List Finding) (f : Finding) → HasFinding (xs ++ f ∷ []) f
has-last [] f = inl refl
has-last (x ∷ xs) f = inr (has-last xs f)

-- one more at the end
ordered-push : (xs : List Finding) (y : Finding) → InReportOrder xs → ((x : Finding) → HasFinding xs x → IsReportedBefore x y) → InReportOrder (xs ++ y ∷ [])
ordered-push [] y first before = tt
ordered-push (x ∷ []) y first before = (before x (inl refl), tt)
ordered-push (x ∷ z ∷ xs) y first before = (first.0, ordered-push (z ∷ xs) y first.1 (λ a h. before a (inr h)))

-- ---- What is never persisted

flush-within : (T : Recording) (l i : ℕ) → IsFlushOf T l i → i ≤ length T.events
flush-within T l i (ByFlush t is) = (act-within T i (Flushes t l) is).1
flush-within T l i (ByClflush is) = (act-within T i (Clflushes l) is).1

-- whether a flush of the line comes after a store
flushed-after : (T : Recording) (l i : ℕ) → IsTrue (nat_lt i (last_flush l (history T (length T.events)))) ↔ IsFlushedAfter T l i
flushed-after T l i = (to, from)
  where
    last : IsLastFlush T l (length T.events) (last_flush l (history T (length T.events)))
    last = last_flush-tells T l (length T.events)

    reached : i < last_flush l (history T (length T.events)) → (last_flush l (history T (length T.events)) ≡ 0) ⊎ (IsFlushOf T l (last_flush l (history T (length T.events))) × (last_flush l (history T (length T.events)) ≤ length T.events)) →
        IsFlushedAfter T l i
    reached less (inl none) = absurd (omega (arith, less, none))
    reached less (inr x) = (last_flush l (history T (length T.events)), less, x.0)

    to : IsTrue (nat_lt i (last_flush l (history T (length T.events)))) → IsFlushedAfter T l i
    to e = reached (ltb-true i (last_flush l (history T (length T.events))) e) last.reached

    from : IsFlushedAfter T l i → IsTrue (nat_lt i (last_flush l (history T (length T.events))))
    from x = lt-ltb i (last_flush l (history T (length T.events))) (omega (arith, x.1, last.greatest x.0 (flush-within T l x.0 x.2) x.2))

-- two tests of the same fact
same-test : (P : Type 0) (a b : Bool) → IsTrue a ↔ P → IsTrue b ↔ P → a ≡ b
same-test P true true x y = refl
same-test P true false x y = sym (y.1 (x.0 refl))
same-test P false true x y = x.1 (y.0 refl)
same-test P false false x y = refl

-- The stores of the first n events that are never persisted, in report order.
pub record AreLateTo (T : Recording) (n : ℕ) (found : List Finding) : Type 0 where
  pub ordered : InReportOrder found
  pub just : (f : Finding) → HasFinding found f ↔ (IsFinding T f × (is_known_late f ≡ true) × (reported_at f ≤ n))

-- such a finding is a lost store
late-is_lost : (T : Recording) (f : Finding) → IsFinding T f → is_known_late f ≡ true → (l : ℕ) × IsLost T l (reported_at f)
late-is_lost T (NeverPersisted i flushed) h late = (h.0, record { what = h.1.what; is_store = h.1.is_store; later = (never_persisted_by_stores T h.0 i h.1.what h.1.is_store).0 h.1 })
late-is_lost T (Overwritten j i) h late = absurd (let no : ⊥ = cc in no)
late-is_lost T (RedundantFlush i) h late = absurd (let no : ⊥ = cc in no)
late-is_lost T (FenceWithoutFlush i) h late = absurd (let no : ⊥ = cc in no)

late-within : (T : Recording) (f : Finding) → IsFinding T f → is_known_late f ≡ true → (1 ≤ reported_at f) × (reported_at f ≤ length T.events)
late-within T f h late = let x = late-is_lost T f h late in act-within T (reported_at f) (Stores x.0 x.1.what) x.1.is_store

pub late-none : (T : Recording) (n : ℕ) → AreLostAfter T n → AreLateTo T n []
late-none T n after = record { ordered = tt; just = λ f. (λ none. absurd none, λ h. let x = late-is_lost T f h.0 h.1 in absurd (omega (arith, h.2, after x.0 (reported_at f) x.1))) }

equal_or_less : (m n : ℕ) → m ≤ suc n → (m ≡ suc n) ⊎ (m ≤ n)
equal_or_less m n h = grind arith

-- at an event that is no lost store, none is found
late-other : (T : Recording) (n : ℕ) (found : List Finding) → ((l : ℕ) → ¬ IsLost T l (suc n)) → AreLateTo T n found → AreLateTo T (suc n) found
late-other T n found other late = record { ordered = late.ordered; just = λ f. (there f, back f) }
  where
    there : (f : Finding) → HasFinding found f → IsFinding T f × (is_known_late f ≡ true) × (reported_at f ≤ suc n)
    there f has = let h = (late.just f).0 has in (h.0, h.1, omega (arith, h.2))

    back : (f : Finding) → IsFinding T f × (is_known_late f ≡ true) × (reported_at f ≤ suc n) → HasFinding found f
    back f h = elim (equal_or_less (reported_at f) n h.2) [
      | inl same ↦ let x = late-is_lost T f h.0 h.1 in absurd (other x.0 (subst (IsLost T x.0) same x.1))
      | inr before ↦ (late.just f).1 (h.0, h.1, before)
    ]

-- at a lost store, it is
late-store : (T : Recording) (n l : ℕ) (found : List Finding) → IsLost T l (suc n) → AreLateTo T n found → AreLateTo T (suc n) (found ++ NeverPersisted (suc n) (nat_lt (suc n) (last_flush l (history T (length T.events)))) ∷ [])
late-store T n l found lost late = record { ordered = ordered-push found it late.ordered before; just = λ f. (there f, back f) }
  where
    flushed : Bool
    flushed = nat_lt (suc n) (last_flush l (history T (length T.events)))

    it : Finding
    it = NeverPersisted (suc n) flushed

    before : (x : Finding) → HasFinding found x → IsReportedBefore x it
    before x first = let a = (late.just x).0 first in inl (omega (arith, a.2))

    is : IsFinding T it
    is = (l, (never_persisted_by_stores T l (suc n) lost.what lost.is_store).1 lost.later, flushed-after T l (suc n))

    there : (f : Finding) → HasFinding (found ++ it ∷ []) f → IsFinding T f × (is_known_late f ≡ true) × (reported_at f ≤ suc n)
    there f has = elim (has-append found (it ∷ []) f has) [
      | inl first ↦ let h = (late.just f).0 first in (h.0, h.1, omega (arith, h.2))
      | inr second ↦ elim second [
        | inl same ↦ subst (λ g. IsFinding T g × (is_known_late g ≡ true) × (reported_at g ≤ suc n)) same (is, refl, omega arith)
        | inr none ↦ absurd none
      ]
    ]

    here : (f : Finding) → IsFinding T f → is_known_late f ≡ true → reported_at f ≡ suc n → HasFinding (found ++ it ∷ []) f
    here (NeverPersisted i b) h late_one e =
        let at : IsFinding T (NeverPersisted (suc n) b) = subst (λ m. IsFinding T (NeverPersisted m b)) e h in
        let line = same-line T at.0 l (suc n) at.1.what lost.what at.1.is_store lost.is_store in
        let same : flushed ≡ b = same-test (IsFlushedAfter T l (suc n)) flushed b (flushed-after T l (suc n)) (subst (λ k. IsTrue b ↔ IsFlushedAfter T k (suc n)) line at.2) in
        let told : it ≡ NeverPersisted i b = ap (NeverPersisted (suc n)) same ∙ ap (λ m. NeverPersisted m b) (sym e) in
        subst (HasFinding (found ++ it ∷ [])) told (has-last found it)
    here (Overwritten j i) h late_one e = absurd (let no : ⊥ = cc in no)
    here (RedundantFlush i) h late_one e = absurd (let no : ⊥ = cc in no)
    here (FenceWithoutFlush i) h late_one e = absurd (let no : ⊥ = cc in no)

    back : (f : Finding) → IsFinding T f × (is_known_late f ≡ true) × (reported_at f ≤ suc n) → HasFinding (found ++ it ∷ []) f
    back f h = elim (equal_or_less (reported_at f) n h.2) [
      | inl e ↦ here f h.0 h.1 e
      | inr less ↦ has-left found (it ∷ []) f ((late.just f).1 (h.0, h.1, less))
    ]

-- what the entry of a lost store adds
lost-adds : (n : ℕ) (b : Bool) → lost_at n (if b then 4294967295 else 0) ≡ NeverPersisted n b ∷ []
lost-adds n true = refl
lost-adds n false = refl

-- one event more
pub late-next : (T : Recording) (n : ℕ) (entries : List ℕ) (found new : List Finding) (entry : ℕ) → AreMarked T entries → n < length T.events → entry ≡ slice_index entries (suc n) → new ≡ found ++ lost_at (suc n) entry →
    AreLateTo T n found → AreLateTo T (suc n) new
late-next T n entries found new entry marked within read added late = subst (AreLateTo T (suc n)) (sym (added ∙ ap (λ e. found ++ lost_at (suc n) e) read)) (elim (lost-or-not T n within) [
  | inl x ↦
      let told : lost_at (suc n) (slice_index entries (suc n)) ≡ NeverPersisted (suc n) (nat_lt (suc n) (last_flush x.0 (history T (length T.events)))) ∷ [] =
      ap (lost_at (suc n)) (marked.lost x.0 (suc n) x.1) ∙ lost-adds (suc n) (nat_lt (suc n) (last_flush x.0 (history T (length T.events)))) in
      subst (λ more. AreLateTo T (suc n) (found ++ more)) (sym told) (late-store T n x.0 found x.1 late)
  | inr none ↦
      let place = marked.others (suc n) (omega arith) (omega (arith, within)) none in
      let tells : tells_lost (slice_index entries (suc n)) ≡ false = place-tells (slice_index entries (suc n)) (length T.events) place.0 place.1 marked.trace.few in
      let told : lost_at (suc n) (slice_index entries (suc n)) ≡ [] = ap (λ b. if b then NeverPersisted (suc n) (slice_index entries (suc n) == 4294967295) ∷ [] else []) tells in
      let same : found ++ lost_at (suc n) (slice_index entries (suc n)) ≡ found = ap (λ more. found ++ more) told ∙ append-nil found in
      subst (AreLateTo T (suc n)) (sym same) (late-other T n found none late)
])

-- and all of them
pub late-all : (T : Recording) (n : ℕ) (found : List Finding) → length T.events ≤ n → AreLateTo T n found → AreKnownLate T found
late-all T n found past late = record {
  ordered = late.ordered;
  just = λ f. (
    λ has. let h = (late.just f).0 has in (h.0, h.1),
    λ h. (late.just f).1 (h.0, h.1, omega (arith, past, (late-within T f h.0 h.1).1)),
  );
}
