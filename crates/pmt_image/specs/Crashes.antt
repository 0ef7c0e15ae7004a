-- Numbers of stores by line: which crash is asked for, and which are near a place.
use Rattle.std.specs.Prelude.{◌≡◌, ℕ, ◌<◌, ◌≤◌, ◌⊎◌, ◌==◌, if◌then◌else◌, List, [], ◌∷◌, unwrap_or, nat_eq, zero, suc, ◌+◌, ◌-◌, nat_lt, Bool, ◌++◌, length, reverse, None, true, false, map}
use Rattle.std.specs.declared.hash.FoldHasher.{FoldHasher}
use Rattle.std.specs.declared.hash.BuildHasherDefault.{BuildHasherDefault}
use Rattle.indexmap.specs.IndexMap.{IndexMap, get}
use Rattle.pmt_explain.specs.declared.lines.LineCount.{LineCount}
use Rattle.pmt_laws.specs.Prelude.{Written, Act, Image, count, write, image_of, Recording, count_at, front_at, VectorsAt, has_line, Contains, flat_map, Any, AllByRecursion}
use Rattle.pmt_image.specs.declared.crash.LineStores.{LineStores}
use Rattle.pmt_image.specs.declared.crash.CountFault.{CountFault}
use Rattle.pmt_image.specs.declared.crash.CountFault.TheVariants.{PastEnd, Outside, OutOfMemory}
use Rattle.pmt_image.specs.declared.crash.Crash.{Crash}
use Rattle.pmt_image.specs.declared.near.NearCrashes.{NearCrashes}

abbrev pub Table : Type 0
Table = IndexMap ℕ ℕ (BuildHasherDefault FoldHasher)

-- The number of line l; none of a line that is not in the table.
abbrev pub count_in : Table → ℕ → ℕ
count_in table l = unwrap_or (get nat_eq table l) 0

-- The counts, with those of these lines set one after another.
abbrev pub with_counts : List LineStores → (ℕ → ℕ) → ℕ → ℕ
with_counts [] v l = v l
with_counts (x ∷ xs) v l = with_counts xs (λ k. if x.line == k then x.stores else v k) l

-- The persisted stores of a line, and all its stores.
abbrev pub persisted_entry : LineCount → LineStores
persisted_entry x = record { line = x.line; stores = x.persisted }

abbrev pub stored_entry : LineCount → LineStores
stored_entry x = record { line = x.line; stores = x.stores }

-- The number lies between the least and the greatest of its line.
abbrev pub IsBetween : (ℕ → ℕ) → (ℕ → ℕ) → LineStores → Type 0
IsBetween least greatest x = (least x.line ≤ x.stores) × (x.stores ≤ greatest x.line)

-- One of these numbers does not, and these are its bounds.
abbrev pub IsOutside : (ℕ → ℕ) → (ℕ → ℕ) → List LineStores → CountFault → Type 0
IsOutside least greatest asked (Outside x few many) =
    Contains asked x × (few ≡ least x.line) × (many ≡ greatest x.line) × ((x.stores < few) ⊎ (many < x.stores))
IsOutside least greatest asked (PastEnd events) = ⊥
IsOutside least greatest asked OutOfMemory = ⊥

-- ---- Ways to give a few lines other numbers of stores

-- The choice, with line l beside it: n numbers of it, from `low` on.
abbrev pub set_to : List LineStores → ℕ → ℕ → ℕ → List (List LineStores)
set_to choice l low zero = []
set_to choice l low (suc n) = set_to choice l low n ++ (choice ++ record { line = l; stores = low + n } ∷ []) ∷ []

-- So, where it has room for one more of at most so many lines.
abbrev pub settings : ℕ → ℕ → ℕ → ℕ → List LineStores → List (List LineStores)
settings most l low n choice = if nat_lt (length choice) most then set_to choice l low n else []

-- The first number of the line that is not the base's: its count with `all`, else its front.
abbrev pub low_of : Bool → LineCount → ℕ
low_of all x = if all then x.persisted else suc x.persisted

-- The choices, and each with the line beside it.
abbrev pub grown : Bool → ℕ → LineCount → List (List LineStores) → List (List LineStores)
grown all most x choices = choices ++ flat_map (settings most x.line (low_of all x) (x.stores - x.persisted)) choices

-- The choices, and each with some of these lines beside it.
abbrev pub chosen : Bool → ℕ → List LineCount → List (List LineStores) → List (List LineStores)
chosen all most [] choices = choices
chosen all most (x ∷ xs) choices = chosen all most xs (grown all most x choices)

-- How many of the lines are off their fronts where each has all its stores but those of the choice.
abbrev pub fronts_off : List LineCount → List LineStores → ℕ
fronts_off [] choice = 0
fronts_off (x ∷ xs) choice = if with_counts choice (λ _. x.stores) x.line == x.persisted then fronts_off xs choice else suc (fronts_off xs choice)

-- Stores, the last one first, written in their order.
abbrev pub written_by : List Written → Image
written_by [] a = None
written_by (w ∷ ws) a = write w (written_by ws) a

-- So many stores of each line are in the history, and these are the persisted ones, in their order.
pub record AreFound (persisted : ℕ → ℕ) (history : List Act) (seen : Table) (stores : List Written) : Type 0 where
  pub seen_are : (l : ℕ) → count_in seen l ≡ count l history
  pub image_is : (a : ℕ) → written_by (reverse stores) a ≡ image_of persisted history a

-- How many stores of line l the crash leaves persisted.
abbrev pub persisted_by : Crash → ℕ → ℕ
persisted_by crash l = count_in crash.persisted l

-- Each line has the stores that no crash at place n can lose, or all its stores; but so many as are asked for it.
abbrev pub asked_count : Recording → ℕ → Bool → List LineStores → ℕ → ℕ
asked_count T n all asked l = with_counts asked (λ k. if all then count_at T k n else front_at T k n) l

-- The place lies past the events, or a number lies outside of the bounds of its line, or memory was refused.
abbrev pub IsCountFault : Recording → ℕ → List LineStores → CountFault → Type 0
IsCountFault T n asked (PastEnd events) = (events ≡ length T.events) × (events < n)
IsCountFault T n asked (Outside x few many) = IsOutside (λ l. front_at T l n) (λ l. count_at T l n) asked (Outside x few many)
IsCountFault T n asked OutOfMemory = Unit {0}

-- ---- The crashes at a place that are near what is safe, or near all that was stored

-- Each line but at most k has as many stores as the base has of it.
pub record IsOffBy (k : ℕ) (base v : ℕ → ℕ) : Type 0 where
  pub lines : List ℕ
  pub few : length lines ≤ k
  pub others : (l : ℕ) → has_line l lines ≡ false → v l ≡ base l

-- A crash at place n may leave these numbers of stores, of which at most k are off the fronts, or at most k off the counts.
pub record IsNear (T : Recording) (n k : ℕ) (v : ℕ → ℕ) : Type 0 where
  pub may : VectorsAt T n v
  pub near : IsOffBy k (λ l. front_at T l n) v ⊎ IsOffBy k (λ l. count_at T l n) v

-- Each line has the same number.
abbrev pub AreSame : (ℕ → ℕ) → (ℕ → ℕ) → Type 0
AreSame v w = (l : ℕ) → v l ≡ w l

-- No two of them are the same.
abbrev pub AllDiffer : List (ℕ → ℕ) → Type 0
AllDiffer [] = Unit {0}
AllDiffer (v ∷ vs) = AllByRecursion (λ w. ¬ AreSame v w) vs × AllDiffer vs

-- The list has all of them, each once, and no others.
pub record AreNear (T : Recording) (n k : ℕ) (list : List (ℕ → ℕ)) : Type 0 where
  pub each : AllByRecursion (IsNear T n k) list
  pub whole : (v : ℕ → ℕ) → IsNear T n k v → Any (λ w. AreSame w v) list
  pub once : AllDiffer list

-- What crashes leave that are told by a few lines.
abbrev pub left_by : Recording → ℕ → Bool → List (List LineStores) → List (ℕ → ℕ)
left_by T n all choices = map (λ lines. λ l. asked_count T n all lines l) choices

-- What the crashes leave.
abbrev pub left_by_all : Recording → ℕ → NearCrashes → List (ℕ → ℕ)
left_by_all T n crashes =
    left_by T n false (map (λ lines. lines.items) crashes.off_fronts.items) ++ left_by T n true (map (λ lines. lines.items) crashes.off_counts.items)
