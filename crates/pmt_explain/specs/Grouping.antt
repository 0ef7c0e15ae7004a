-- Items in groups, as stores that are never persisted.
use Rattle.std.specs.Prelude.{◌≡◌, ℕ, ◌⊎◌, List, [], ◌∷◌, ◌++◌, Option, Some, length, slice_get, slice_set, MatchOption, ◌+◌, ◌-◌, nat_eq}
use Rattle.indexmap.specs.IndexMap.{get}
use Rattle.pmt_explain.specs.Prelude.{Written, Stores, Recording, IsAct, Cause, Later, Unflushed, Unfenced, IsCause}
use Rattle.pmt_explain.specs.declared.lost_grouping.LostGroup.{LostGroup}
use Rattle.pmt_explain.specs.declared.lost_grouping.Key.{Key}
use Rattle.pmt_explain.specs.declared.lost_grouping.Key.TheVariants.{Flush, Line}
use Rattle.pmt_explain.specs.declared.lost_grouping.Places.{Places}

module _ {A : Type 0} where
  -- The second list has those items of the first that have the property, in their order.
  abbrev pub Picks : (A → Type 0) → List A → List A → Type 0
  Picks P [] ys = ys ≡ []
  Picks P (x ∷ xs) ys = (P x × ((zs : List A) × (ys ≡ x ∷ zs) × Picks P xs zs)) ⊎ ((¬ P x) × Picks P xs ys)

module _ {A G : Type 0} (IsIn : G → A → Type 0) (Tells : G → List A → Type 0) where
  -- The first of these items is in the group, which tells of all that are in it; the others are left.
  pub record IsFirstGroup (xs : List A) (g : G) (others : List A) : Type 0 where
    pub head : A
    pub first : slice_get xs 0 ≡ Some head
    pub inside : IsIn g head
    pub members : List A
    pub picked : Picks (IsIn g) xs members
    pub left : Picks (λ x. ¬ IsIn g x) xs others
    pub told : Tells g members

  -- The groups of these items, in the order of their first items: the group of the first item, then those of the others.
  abbrev pub AreGroups : List A → List G → Type 0
  AreGroups xs [] = xs ≡ []
  AreGroups xs (g ∷ gs) = (others : List A) × IsFirstGroup xs g others × AreGroups others gs

-- A group of one, `one`, is added to groups whose places `old` tells by their keys: it is joined to the one with its key, or is the
-- new last one.
abbrev pub Adds : {G K : Type 0} → (G → K) → (G → G → G) → List G → (K → Option ℕ) → G → List G → (K → Option ℕ) → Type 0
Adds {G = G} {K = K} key join gs old one hs new =
    MatchOption (old (key one)) ((hs ≡ gs ++ one ∷ []) × (new (key one) ≡ Some (length gs)) × ((q : K) → (key one ≡ q → ⊥) → new q ≡ old q))
    (λ p. ((g : G) → slice_get gs p ≡ Some g → hs ≡ slice_set gs p (join g one)) × ((q : K) → new q ≡ old q))

-- ---- Groups of stores that are never persisted

-- Event i is a store to line l, and this is why it is not safe at the trace's end.
pub record IsLostFor (T : Recording) (l : ℕ) (c : Cause) (i : ℕ) : Type 0 where
  pub what : Written
  pub is_store : IsAct T i (Stores l what)
  pub why : IsCause T l (length T.events) i c

-- Event i is a store that is not safe at the trace's end.
abbrev pub IsLostStore : Recording → ℕ → Type 0
IsLostStore T i = (l : ℕ) × (c : Cause) × IsLostFor T l c i

-- The store is of the group's line, and lost for its cause.
abbrev pub IsInGroup : Recording → LostGroup → ℕ → Type 0
IsInGroup T g i = IsLostFor T g.line g.cause i

-- The group tells of these stores.
pub record TellsStores (g : LostGroup) (stores : List ℕ) : Type 0 where
  pub first : slice_get stores 0 ≡ Some g.first
  pub last : slice_get stores (length stores - 1) ≡ Some g.last
  pub count : g.count ≡ length stores

-- The groups by line and cause of those of these numbers that are of lost stores.
abbrev pub AreLostGroups : Recording → List ℕ → List LostGroup → Type 0
AreLostGroups T numbers groups = (stores : List ℕ) × Picks (IsLostStore T) numbers stores × AreGroups (IsInGroup T) TellsStores stores groups

-- The store is lost, alone in this group.
pub record IsLostAlone (T : Recording) (i : ℕ) (g : LostGroup) : Type 0 where
  pub inside : IsInGroup T g i
  pub told : TellsStores g (i ∷ [])

-- What tells groups with this line and cause apart from others.
abbrev pub key_for : ℕ → Cause → Key
key_for line (Unfenced flush thread other) = Flush flush
key_for line Unflushed = Line line
key_for line Later = Line line

abbrev pub group_key : LostGroup → Key
group_key g = key_for g.line g.cause

-- Where the group with this key stands.
abbrev pub place_in : Places → Key → Option ℕ
place_in places (Flush flush) = get nat_eq places.unfenced flush
place_in places (Line line) = get nat_eq places.unflushed line

-- The group with the store of a group of one.
abbrev pub with_store : LostGroup → LostGroup → LostGroup
with_store g one = record g { last = one.last; count = g.count + 1 }

-- The store of a group of one is added.
abbrev pub AddsStore : List LostGroup → Places → LostGroup → List LostGroup → Places → Type 0
AddsStore gs old one hs new = Adds group_key with_store gs (place_in old) one hs (place_in new)
