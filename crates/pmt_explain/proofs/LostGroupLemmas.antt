-- Groups of stores that are never persisted, with one more store.
use Rattle.std.proofs.Common.{◌≡◌, ℕ, suc, ◌+◌, ◌-◌, ◌^◌, ◌<◌, ◌≤◌, ◌⊎◌, inl, inr, List, [], ◌∷◌, ◌++◌, length, length-append, get_or, Option, None, Some, refl, sym, ap, ap₂, subst, ◌∙◌, arith}
use Rattle.std.specs.Prelude.{slice_get, All}
use Rattle.std.proofs.lemmas.Bool.{cases_eq}
use Rattle.std.proofs.lemmas.Option.{none-some, same_Some, slice_get-get_or}
use Rattle.pmt_explain.specs.Prelude.{Written, Stores, Flushes, Recording, IsAct, Cause, Later, Unflushed, Unfenced, IsCause, IsFirstFence}
use Rattle.pmt_laws.proofs.Histories.{act-unique, act-within}
use Rattle.pmt_reasons.proofs.CauseLaws.{first_fence-unique, cause_is_unique, cause_exists}
use Rattle.pmt_explain.specs.declared.lost_grouping.LostGroup.{LostGroup}
use Rattle.pmt_explain.specs.declared.lost_grouping.Key.{Key}
use Rattle.pmt_explain.specs.declared.lost_grouping.Key.TheVariants.{Flush, Line}
use Rattle.pmt_explain.specs.declared.lost_grouping.Places.{Places}
use Rattle.pmt_explain.specs.CauseOf.{IsCauseOf, TellCauses}
use Rattle.pmt_explain.specs.Grouping.{Picks, IsLostFor, IsLostStore, IsInGroup, TellsStores, AreLostGroups, IsLostAlone, key_for, group_key, place_in, with_store, AddsStore}
use Rattle.pmt_explain.proofs.GroupingLemmas.{picks-more, picks-other, picks-length, groups-told, get-last, first-more, IsGathered, places-within, gathered-adds}

-- no store is lost because it comes after the end
not-later : (T : Recording) (l i : ℕ) → IsLostFor T l Later i → ⊥
not-later T l i x = absurd (omega (arith, x.why, (act-within T i (Stores l x.what) x.is_store).1))

-- stores with one key have one line and one cause
keyed : (T : Recording) (l m : ℕ) (c d : Cause) (i j : ℕ) → IsLostFor T l c j → IsLostFor T m d i → key_for l c ≡ key_for m d → IsLostFor T l c i
keyed T l m Later d i j x y same = absurd (not-later T l j x)
keyed T l m Unflushed Later i j x y same = absurd (not-later T m i y)
keyed T l m Unflushed Unflushed i j x y same = let line : m ≡ l = cc in subst (λ k. IsLostFor T k Unflushed i) line y
keyed T l m Unflushed (Unfenced g u p) i j x y same = absurd (cc)
keyed T l m (Unfenced f t o) Later i j x y same = absurd (not-later T m i y)
keyed T l m (Unfenced f t o) Unflushed i j x y same = absurd (cc)
keyed T l m (Unfenced f t o) (Unfenced g u p) i j x y same =
    let n = length T.events in
    let flush : g ≡ f = cc in
    let act = act-unique T f (Flushes u m) (Flushes t l) (subst (λ k. IsAct T k (Flushes u m)) flush y.why.1.is_flush) x.why.1.is_flush in
    let line : m ≡ l = cc in
    let thread : u ≡ t = cc in
    let fence : p ≡ o = first_fence-unique T f n p o (subst (λ k. IsFirstFence T k n p) flush y.why.1.first_fence) x.why.1.first_fence in
    let cause : Unfenced g u p ≡ Unfenced f t o = cc in
    subst (λ k. IsLostFor T k (Unfenced f t o) i) line (subst (λ e. IsLostFor T m e i) cause y)

-- a store has one key
one-key : (T : Recording) (l m : ℕ) (c d : Cause) (i : ℕ) → IsLostFor T l c i → IsLostFor T m d i → key_for l c ≡ key_for m d
one-key T l m c d i x y =
    let act = act-unique T i (Stores l x.what) (Stores m y.what) x.is_store y.is_store in
    let line : l ≡ m = cc in
    let cause : c ≡ d = cause_is_unique T m (length T.events) i c d (subst (λ k. IsCause T k (length T.events) i c) line x.why) y.why in
    ap₂ key_for line cause

-- two keys are the same, or not
key-dec : (k q : Key) → (k ≡ q) ⊎ (k ≡ q → ⊥)
key-dec (Flush a) (Flush b) = elim (cases_eq a b) [ inl same ↦ inl (ap Flush same) | inr apart ↦ inr (λ e. apart (cc)) ]
key-dec (Flush a) (Line b) = inr (λ e. cc)
key-dec (Line a) (Flush b) = inr (λ e. cc)
key-dec (Line a) (Line b) = elim (cases_eq a b) [ inl same ↦ inl (ap Line same) | inr apart ↦ inr (λ e. apart (cc)) ]

-- a group tells of one more store
tells-more : (g one : LostGroup) (is : List ℕ) (i : ℕ) → TellsStores one (i ∷ []) → TellsStores g is → TellsStores (with_store g one) (is ++ i ∷ [])
tells-more g one is i alone told =
    let last : i ≡ one.last = same_Some i one.last alone.last in
    let longer : length (is ++ i ∷ []) ≡ length is + 1 = length-append is (i ∷ []) in
    let place : length (is ++ i ∷ []) - 1 ≡ length is = omega arith in
    record {
      first = first-more is i g.first told.first;
      last = ap (λ k. slice_get (is ++ i ∷ []) k) place ∙ get-last is i ∙ ap Some last;
      count = ap (λ n. n + 1) told.count ∙ sym longer;
    }

-- the groups of the first numbers, and where they stand
pub record IsLostGathered (T : Recording) (numbers : List ℕ) (gs : List LostGroup) (find : Key → Option ℕ) : Type 0 where
  pub stores : List ℕ
  pub picked : Picks (IsLostStore T) numbers stores
  pub gathered : IsGathered (IsInGroup T) TellsStores group_key stores gs find

pub lost-start : (T : Recording) (find : Key → Option ℕ) → ((k : Key) → find k ≡ None) → IsLostGathered T [] [] find
lost-start T find none = record {
  stores = [];
  picked = refl;
  gathered = record { groups = refl; places = record { found = λ k p e. let never : None ≡ Some p = sym (none k) ∙ e in cc; placed = λ k p e. absurd (none-some k e) } };
}

-- one more number, which is of no lost store
pub lost-other : (T : Recording) (numbers : List ℕ) (gs : List LostGroup) (find : Key → Option ℕ) (i : ℕ) → ¬ IsLostStore T i → IsLostGathered T numbers gs find → IsLostGathered T (numbers ++ i ∷ []) gs find
lost-other T numbers gs find i none s = record { stores = s.stores; picked = picks-other (IsLostStore T) numbers s.stores i s.picked none; gathered = s.gathered }

-- one more lost store
pub lost-more : (T : Recording) (numbers : List ℕ) (gs hs : List LostGroup) (old new : Places) (i : ℕ) (one : LostGroup) → IsLostAlone T i one → AddsStore gs old one hs new →
    IsLostGathered T numbers gs (place_in old) → IsLostGathered T (numbers ++ i ∷ []) hs (place_in new)
lost-more T numbers gs hs old new i one alone adds s = record {
  stores = s.stores ++ i ∷ [];
  picked = picks-more (IsLostStore T) numbers s.stores i s.picked (one.line, one.cause, alone.inside);
  gathered =
      gathered-adds (IsInGroup T) TellsStores group_key (λ g h x y. keyed T g.line h.line g.cause h.cause x y) (λ g h x. one-key T g.line h.line g.cause h.cause x) with_store s.stores gs hs
      (place_in old) (place_in new) i one key-dec (λ g. refl) (λ g y inside. inside) (λ g y inside. inside) (λ g is told. tells-more g one is i alone.told told) alone.inside alone.told
      s.gathered adds;
}

-- a place that is told is in the list
pub lost-stands : (T : Recording) (numbers : List ℕ) (gs : List LostGroup) (find : Key → Option ℕ) (k : Key) (p : ℕ) → IsLostGathered T numbers gs find → find k ≡ Some p → p < length gs
lost-stands T numbers gs find k p s e = places-within group_key gs find k p s.gathered.places e

-- the counts are small
pub lost-room : (T : Recording) (numbers : List ℕ) (gs : List LostGroup) (find : Key → Option ℕ) → length numbers + 1 < 2 ^ 64 → IsLostGathered T numbers gs find → All (λ g. g.count + 1 < 2 ^ 64) gs
lost-room T numbers gs find few s p d within =
    let g = get_or gs p d in
    let told = groups-told (IsInGroup T) TellsStores s.stores gs p g s.gathered.groups (slice_get-get_or gs p d within) in
    omega (arith, told.1.count, told.2, picks-length (IsLostStore T) numbers s.stores s.picked)

-- an event that is no store is none that is lost
pub none-lost : (T : Recording) (i : ℕ) → ((l : ℕ) (w : Written) → ¬ IsAct T i (Stores l w)) → ¬ IsLostStore T i
none-lost T i none (l, c, x) = none l x.what x.is_store

-- nor is one without cause
pub safe-lost : (T : Recording) (i : ℕ) → IsCauseOf T (length T.events) i None → ¬ IsLostStore T i
safe-lost T i safe (l, c, x) = safe l x.what x.is_store ((cause_exists T l (length T.events) i x.what x.is_store).1 (c, x.why))

-- the cause that is read of an event
pub cause-read : (T : Recording) (start : ℕ) (causes : List (Option Cause)) (i : ℕ) (o : Option Cause) → TellCauses T start causes → start + 1 ≤ i → slice_get causes (i - 1 - start) ≡ Some o → IsCauseOf T (length T.events) i o
cause-read T start causes i o tell first read = let number : suc (i - 1 - start) + start ≡ i = omega arith in subst (λ k. IsCauseOf T (length T.events) k o) number (tell (i - 1 - start) o read)

-- a store with a cause is lost
pub lost-alone : (T : Recording) (i l : ℕ) (c : Cause) (w : Written) → IsAct T i (Stores l w) → IsCauseOf T (length T.events) i (Some c) →
    IsLostAlone T i (record { line = l; cause = c; first = i; last = i; count = 1 })
lost-alone T i l c w store why =
    let act = act-unique T i (Stores why.line why.what) (Stores l w) why.is_store store in
    let line : why.line ≡ l = cc in
    record {
      inside = record { what = w; is_store = store; why = subst (λ k. IsCause T k (length T.events) i c) line why.why };
      told = record { first = refl; last = refl; count = refl };
    }

-- the groups are as they should be
pub lost-groups : (T : Recording) (numbers : List ℕ) (gs : List LostGroup) (find : Key → Option ℕ) → IsLostGathered T numbers gs find → AreLostGroups T numbers gs
lost-groups T numbers gs find s = (s.stores, s.picked, s.gathered.groups)

-- no store
pub lost-none : (T : Recording) (stores : List ℕ) (groups : List LostGroup) → length stores ≡ 0 → groups ≡ [] → AreLostGroups T stores groups
lost-none T [] groups none is = rw is ([], refl, refl)
lost-none T (x ∷ xs) groups none is = absurd (omega (arith, none))
