-- In the kept selection the last stores and the fronts up to them are those of the trace, so the verdicts are too.
use Rattle.std.proofs.Common.{◌≡◌, ℕ, zero, suc, ◌<◌, ◌≤◌, false, List, [], ◌∷◌, length, filter_map, Some, IfSome, inl, inr, refl, sym, ◌∙◌, ap, subst, le_trans, le_of_eq, true≢false, arith}
use Rattle.std.proofs.lemmas.Bool.{le-leb}
use Rattle.std.proofs.lemmas.Option.{IfSome_then, none-some}
use Rattle.std.proofs.lemmas.Bool.Decides.{nat_tests}
use Rattle.pmt_laws.specs.Prelude.{Span, Event, Act, Stores, count, Recording, event, IsAct, history, count_at, front, front_at, Has, always_stays, IsSelection, cut, matching_place, IsKeep, Placed, last_store, InSpan, PersistPasses, OrderedPasses, up_to_last, NoLater, IsNeverPersisted}
use Rattle.pmt_laws.specs.ModelLaws.{VerdictsStay, NeverPersistedStays}
use Rattle.pmt_laws.proofs.Histories.{event-some}
use Rattle.pmt_laws.proofs.CutLemmas.{has-above, place-kept, cut-act, IsNext, Keeps, Drops, Ended, next-step, history-zero, count-cut}
use Rattle.pmt_laws.proofs.KeepLemmas.{keep_is_selection, keep_fronts}
use Rattle.pmt_laws.proofs.AssertLemmas.{persist_by_fronts, ordered_by_fronts}
use Rattle.pmt_laws.proofs.NeverLemmas.{never_persisted_by_fronts}

-- One more act brings equal last stores to equal ones.
last_store-same :
    (b : ℕ) (a : Act) (g h : List Act) → ((l : ℕ) → count l g ≡ count l h) → last_store b g ≡ last_store b h →
    last_store b (a ∷ g) ≡ last_store b (a ∷ h)
last_store-same b a g h c e = grind (arith, nat_tests)

-- An act that need not stay is no last store.
last_store-dropped : (b : ℕ) (a : Act) (h : List Act) → always_stays a ≡ false → last_store b (a ∷ h) ≡ last_store b h
last_store-dropped b (Stores k w) h free = absurd (true≢false free)
last_store-dropped b a h free = refl

-- A selection has the last stores of the trace at matching places.
pub last_store-cut : (T : Recording) (K : List ℕ) (b n : ℕ) → IsSelection T K → last_store b (history (cut T K) (matching_place K n)) ≡ last_store b (history T n)
last_store-cut T K b zero s = ap (last_store b) (history-zero T K s)
last_store-cut T K b (suc nn) s = grind (arith, nat_tests, history-zero, next-step, last_store-same, count-cut, last_store-dropped, last_store-cut T K b nn s)

-- One more act brings equal fronts up to a last store to equal ones.
up_to-same :
    (l b : ℕ) (a : Act) (g h : List Act) → front l g ≡ front l h → front l (up_to_last b g) ≡ front l (up_to_last b h) →
    front l (up_to_last b (a ∷ g)) ≡ front l (up_to_last b (a ∷ h))
up_to-same l b a g h f e = grind (arith, nat_tests)

-- An act that need not stay is not among those up to a last store.
up_to-dropped : (l b : ℕ) (a : Act) (h : List Act) → always_stays a ≡ false → front l (up_to_last b (a ∷ h)) ≡ front l (up_to_last b h)
up_to-dropped l b (Stores k w) h free = absurd (true≢false free)
up_to-dropped l b a h free = refl

-- The front of line l up to the last store that writes the byte at b.
abbrev front_up_to : ℕ → ℕ → List Act → ℕ
front_up_to l b h = front l (up_to_last b h)

-- The kept selection has the fronts up to last stores of the trace at matching places.
pub up_to-cut : (T : Recording) (K : List ℕ) (l b n : ℕ) → IsKeep T K → front_up_to l b (history (cut T K) (matching_place K n)) ≡ front_up_to l b (history T n)
up_to-cut T K l b zero k = ap (front_up_to l b) (history-zero T K (keep_is_selection T K k))
up_to-cut T K l b (suc n) k = go (next-step T K n (keep_is_selection T K k)) (up_to-cut T K l b n k)
  where
    go :
        IsNext T K n → front_up_to l b (history (cut T K) (matching_place K n)) ≡ front_up_to l b (history T n) →
        front_up_to l b (history (cut T K) (matching_place K (suc n))) ≡ front_up_to l b (history T (suc n))
    go (Keeps a is has whole part) e =
        ap (front_up_to l b) part ∙ up_to-same l b a (history (cut T K) (matching_place K n)) (history T n) (sym (keep_fronts T K l n k)) e ∙ ap (front_up_to l b) (sym whole)
    go (Drops a is has free whole part) e = ap (front_up_to l b) part ∙ e ∙ sym (up_to-dropped l b a (history T n) free) ∙ ap (front_up_to l b) (sym whole)
    go (Ended whole part) e = ap (front_up_to l b) part ∙ e ∙ ap (front_up_to l b) (sym whole)

-- Two histories with the same last stores, fronts, and fronts up to the last stores.
pub record IsAlike (g h : List Act) : Type 0 where
  pub stores : (b : ℕ) → last_store b g ≡ last_store b h
  pub fronts : (l : ℕ) → front l g ≡ front l h
  pub earlier : (l b : ℕ) → front_up_to l b g ≡ front_up_to l b h

-- Being alike goes both ways.
alike-back : (g h : List Act) → IsAlike g h → IsAlike h g
alike-back g h e = record { stores = λ b. sym (e.stores b); fronts = λ l. sym (e.fronts l); earlier = λ l b. sym (e.earlier l b) }

-- What passes isPersist after one of them passes it after the other.
alike-persist : (g h : List Act) (A : Span) → IsAlike g h → PersistPasses g A → PersistPasses h A
alike-persist g h A e p =
    (persist_by_fronts h A).1 (λ a i.
    let there : IfSome (last_store a h) (λ x. x.rank ≤ front x.line g) = subst (λ o. IfSome o (λ x. x.rank ≤ front x.line g)) (e.stores a) ((persist_by_fronts g A).0 p a i) in
    IfSome_then (last_store a h) there (λ x q. le_trans q (le_of_eq (e.fronts x.line))))

-- What persists no later by one of them does so by the other.
alike-no_later : (g h : List Act) (b : ℕ) (x y : Placed) → IsAlike g h → NoLater (up_to_last b g) x y → NoLater (up_to_last b h) x y
alike-no_later g h b x y e (inl same) = inl same
alike-no_later g h b x y e (inr q) = inr (le_trans q (le_of_eq (e.earlier x.line b)))

-- What passes isOrderedBefore after one of them passes it after the other.
alike-ordered : (g h : List Act) (A B : Span) → IsAlike g h → OrderedPasses g A B → OrderedPasses h A B
alike-ordered g h A B e p =
    (ordered_by_fronts h A B).1 (λ b i.
    let Each : Placed → Type 0 = λ y. (a : ℕ) → InSpan A a → IfSome (last_store a g) (λ x. NoLater (up_to_last b g) x y) in
    let there : IfSome (last_store b h) Each = subst (λ o. IfSome o Each) (e.stores b) ((ordered_by_fronts g A B).0 p b i) in
    IfSome_then (last_store b h) there (λ y each a j.
    let moved : IfSome (last_store a h) (λ x. NoLater (up_to_last b g) x y) = subst (λ o. IfSome o (λ x. NoLater (up_to_last b g) x y)) (e.stores a) (each a j) in
    IfSome_then (last_store a h) moved (λ x q. alike-no_later g h b x y e q)))

-- The histories of the trace and of the kept selection are alike at matching places.
pub keep_alike : (T : Recording) (K : List ℕ) (n : ℕ) → IsKeep T K → IsAlike (history (cut T K) (matching_place K n)) (history T n)
keep_alike T K n k = record {
  stores = λ b. last_store-cut T K b n (keep_is_selection T K k);
  fronts = λ l. sym (keep_fronts T K l n k);
  earlier = λ l b. up_to-cut T K l b n k;
}

-- Each assertion has the same verdict in the trace and in the kept selection.
pub verdicts_stay : VerdictsStay
verdicts_stay T K i k =
    let g = history (cut T K) (matching_place K i) in
    let h = history T i in
    let e = keep_alike T K i k in
    let back = alike-back g h e in
    (λ A. (alike-persist h g A back, alike-persist g h A e), λ A B. (alike-ordered h g A B back, alike-ordered g h A B e))

-- The matching place of a place that no number passes is how many numbers there are.
place-all : (K : List ℕ) (n : ℕ) → ((k : ℕ) → Has K k → k ≤ n) → matching_place K n ≡ length K
place-all [] n h = refl
place-all (k ∷ ks) n h = rw (le-leb k n (h k (inl refl))) (ap suc (place-all ks n (λ j has. h j (inr has))))

-- A cut has as many events as there are numbers of events.
length-cut_from : (T : Recording) (K : List ℕ) → ((k : ℕ) → Has K k → (e : Event) × (event T k ≡ Some e)) → length (filter_map (event T) K) ≡ length K
length-cut_from T [] there = refl
length-cut_from T (k ∷ ks) there = let first = there k (inl refl) in rw (first.1) (ap suc (length-cut_from T ks (λ j has. there j (inr has))))

-- The place after the whole trace matches the one after the whole cut.
pub place-end : (T : Recording) (K : List ℕ) → IsSelection T K → matching_place K (length T.events) ≡ length (cut T K).events
place-end T K s = place-all K (length T.events) s.within ∙ sym (length-cut_from T K there)
  where
    there : (k : ℕ) → Has K k → (e : Event) × (event T k ≡ Some e)
    there zero h = let above : 0 < 0 = has-above 0 K 0 s.rising h in absurd (omega arith)
    there (suc n) h = let within : suc n ≤ length T.events = s.within (suc n) h in event-some T n within

-- A store of the trace is one of a selection, at the matching place.
stored-cut : (T : Recording) (K : List ℕ) (l i : ℕ) (w : _) → IsSelection T K → IsAct T i (Stores l w) → IsAct (cut T K) (matching_place K i) (Stores l w)
stored-cut T K l zero w s is = absurd (none-some is.0 is.1)
stored-cut T K l (suc n) w s is =
    let has = s.whole (suc n) (Stores l w) is refl in
    subst (λ m. IsAct (cut T K) m (Stores l w)) (sym (place-kept K n s.rising has)) (cut-act T K n (Stores l w) s has is)

-- The same stores are never persisted in the trace and in the kept selection.
pub never_persisted_stays : NeverPersistedStays
never_persisted_stays T K l i w k is = (stays, was)
  where
    selection : IsSelection T K
    selection = keep_is_selection T K k

    is_cut : IsAct (cut T K) (matching_place K i) (Stores l w)
    is_cut = stored-cut T K l i w selection is

    ranks : count_at (cut T K) l (matching_place K i) ≡ count_at T l i
    ranks = count-cut T K l i selection

    ends : front_at (cut T K) l (length (cut T K).events) ≡ front_at T l (length T.events)
    ends = ap (front_at (cut T K) l) (sym (place-end T K selection)) ∙ sym (keep_fronts T K l (length T.events) k)

    stays : IsNeverPersisted T l i → IsNeverPersisted (cut T K) l (matching_place K i)
    stays n = let below = (never_persisted_by_fronts T l i w is).0 n in (never_persisted_by_fronts (cut T K) l (matching_place K i) w is_cut).1 (omega (arith, below, ranks, ends))

    was : IsNeverPersisted (cut T K) l (matching_place K i) → IsNeverPersisted T l i
    was n = let below = (never_persisted_by_fronts (cut T K) l (matching_place K i) w is_cut).0 n in (never_persisted_by_fronts T l i w is).1 (omega (arith, below, ranks, ends))
