-- Groups of stores that are written over.
use Rattle.std.specs.Prelude.{◌≡◌, ℕ, ◌+◌, ◌-◌, true, List, [], ◌∷◌, Some, length, slice_get, nat_eq}
use Rattle.std.specs.declared.hash.FoldHasher.{FoldHasher}
use Rattle.std.specs.declared.hash.BuildHasherDefault.{BuildHasherDefault}
use Rattle.indexmap.specs.IndexMap.{IndexMap, get}
use Rattle.pmt_laws.specs.Prelude.{Written, Stores, writes, Recording, IsAct}
use Rattle.pmt_explain.specs.declared.overwritten_grouping.Overwriting.{Overwriting}
use Rattle.pmt_explain.specs.declared.overwritten_grouping.OverwrittenGroup.{OverwrittenGroup}
use Rattle.pmt_explain.specs.Grouping.{Picks, AreGroups, Adds}

-- Both are stores to line l.
pub record IsPairOf (T : Recording) (l : ℕ) (p : Overwriting) : Type 0 where
  pub earlier : Written
  pub later : Written
  pub is_earlier : IsAct T p.earlier (Stores l earlier)
  pub is_later : IsAct T p.later (Stores l later)

-- Both are stores to one line.
abbrev pub IsPair : Recording → Overwriting → Type 0
IsPair T p = (l : ℕ) × IsPairOf T l p

-- At each address that the earlier store writes, the later one writes the same byte.
abbrev pub IsRepeatedBy : Written → Written → Type 0
IsRepeatedBy w v = (a : ℕ) → writes w a ≡ true → (writes v a ≡ true) × (slice_get v.bytes (a - v.addr) ≡ slice_get w.bytes (a - w.addr))

-- The later store of the pair writes all bytes of the earlier one again, each as it was.
pub record IsSame (T : Recording) (p : Overwriting) : Type 0 where
  pub line : ℕ
  pub pair : IsPairOf T line p
  pub repeated : IsRepeatedBy pair.earlier pair.later

-- The pair is of the group's line.
abbrev pub IsInGroup : Recording → OverwrittenGroup → Overwriting → Type 0
IsInGroup T g p = IsPairOf T g.line p

-- The group tells of these pairs.
pub record TellsPairs (T : Recording) (g : OverwrittenGroup) (pairs : List Overwriting) : Type 0 where
  pub first : slice_get pairs 0 ≡ Some g.first
  pub count : g.count ≡ length pairs
  pub alike : List Overwriting
  pub picked : Picks (IsSame T) pairs alike
  pub same : g.same ≡ length alike

-- The groups by line of those of these pairs that are of two stores to one line.
abbrev pub AreOverwrittenGroups : Recording → List Overwriting → List OverwrittenGroup → Type 0
AreOverwrittenGroups T given groups = (pairs : List Overwriting) × Picks (IsPair T) given pairs × AreGroups (IsInGroup T) (TellsPairs T) pairs groups

-- The pair is of two stores to one line, alone in this group.
pub record IsPairAlone (T : Recording) (p : Overwriting) (g : OverwrittenGroup) : Type 0 where
  pub inside : IsInGroup T g p
  pub told : TellsPairs T g (p ∷ [])

abbrev pub group_line : OverwrittenGroup → ℕ
group_line g = g.line

-- Where the group of each line stands.
abbrev pub LinePlaces : Type 0
LinePlaces = IndexMap ℕ ℕ (BuildHasherDefault FoldHasher)

-- The group with the pair of a group of one.
abbrev pub with_pair : OverwrittenGroup → OverwrittenGroup → OverwrittenGroup
with_pair g one = record g { count = g.count + 1; same = g.same + one.same }

-- The pair of a group of one is added.
abbrev pub AddsPair : List OverwrittenGroup → LinePlaces → OverwrittenGroup → List OverwrittenGroup → LinePlaces → Type 0
AddsPair gs old one hs new = Adds group_line with_pair gs (get nat_eq old) one hs (get nat_eq new)
