-- A part whose carry leaves out some stores, as a part of the program is, and what it owes to the whole.
use Rattle.std.specs.Prelude.{◌≡◌, ℕ, ◌<◌, ◌≤◌, ◌⊎◌, ◌↔◌, false, List, length, drop, ◌++◌, ◌-◌, map, slice_index_or, true, Some, nat_eq, []}
use Rattle.pmt_laws.specs.Prelude.{Event, Recording, IsRising, Has, cut, Op, IsOrderedBefore, Span, Written, Stores, writes, event, IsAct, matching_place, InSpan, list_any}
use Rattle.pmt_asked.specs.declared.ignoring.ByteRange.{ByteRange}
use Rattle.pmt_asked.specs.Choosing.{is_ignored}
use Rattle.pmt_part_laws.specs.Parts.{IsCarried, IsSetAside, IsWellFormed, IsPart}
use Rattle.pmt_slices.specs.Slices.{IsUnwritten}
use Rattle.pmt_parts.specs.declared.part.Part.{Part}
use Rattle.pmt_parts.specs.declared.aside.Met.{Met}

-- Event k is carried over place q, and is no store all of whose bytes lie in the ranges.
abbrev pub IsTaken : Recording → List ByteRange → ℕ → ℕ → Type 0
IsTaken T ranges q k = IsCarried T q k × (is_ignored T ranges k ≡ false)

-- K is the part of the stretch (q, r] without the carried stores that are ignored.
pub record IsPartBut (T : Recording) (ranges : List ByteRange) (q r : ℕ) (K : List ℕ) : Type 0 where
  pub order : q ≤ r
  pub within : r ≤ length T.events
  pub rising : IsRising 0 K
  pub just : (k : ℕ) → Has K k ↔ (IsTaken T ranges q k ⊎ ((q < k) × (k ≤ r)))

-- It is the part of T from its place to its end, with the numbers that its events have in T. It answers for the events after `before`.
pub record IsPartOf (T : Recording) (ranges : List ByteRange) (p : Part) : Type 0 where
  pub order : p.place ≤ p.before
  pub answers : p.before ≤ p.end
  pub part : IsPartBut T ranges p.place p.end p.numbers.items
  pub trace : p.trace ≡ cut T p.numbers.items

-- These are the events of T after the first n, or the first of them.
abbrev pub ComesNext : Recording → ℕ → Recording → Type 0
ComesNext T n block = (later : List Event) × (drop n T.events ≡ block.events ++ later)

-- The number in the whole of the event of the part with this number.
abbrev pub number_in : List ℕ → ℕ → ℕ
number_in K i = slice_index_or K (i - 1) 0

-- The numbers in the whole of these events of the part.
abbrev pub through : List ℕ → List ℕ → List ℕ
through K S = map (number_in K) S

-- These are the events that the trace carries over place m, without the stores that are ignored, and those after it.
abbrev pub AreChosen : Recording → List ByteRange → ℕ → List ℕ → Type 0
AreChosen T ranges m S = (i : ℕ) → Has S i ↔ (IsTaken T ranges m i ⊎ ((m < i) × (i ≤ length T.events)))

-- ---- Which assertions a part sets aside

-- Event i is an isOrderedBefore with this second range.
abbrev pub IsOrderedWith : Recording → ℕ → Span → Type 0
IsOrderedWith T i B = (e : Event) × (event T i ≡ Some e) × (A : Span) × (e.op ≡ IsOrderedBefore A B)

-- To some byte of the range no event after event m up to event n stores.
abbrev pub IsOlder : Recording → ℕ → ℕ → Span → Type 0
IsOlder T m n B = (b : ℕ) × InSpan B b × IsUnwritten T m n b

-- Event i is an isOrderedBefore after events m and `before`, and to some byte of its second range no event after event m stores by then.
pub record IsOlderOrdered (T : Recording) (m before i : ℕ) : Type 0 where
  pub after : m < i
  pub answered : before < i
  pub range : Span
  pub ordered : IsOrderedWith T i range
  pub older : IsOlder T m i range

-- The part answers for its event i, begins after the start of the whole, and sets the event aside: it is an isOrderedBefore, and to some byte
-- of its second range no store of the part's stretch has come by then.
abbrev pub IsAside : Part → ℕ → Type 0
IsAside p i = (0 < p.place) × IsOlderOrdered p.trace (matching_place p.numbers.items p.place) (matching_place p.numbers.items p.before) i

-- It is so exactly if to some byte of its second range no event of the whole stores after the place.
abbrev pub AsideByWhole : Type 0
AsideByWhole =
    (T : Recording) (ranges : List ByteRange) (p : Part) (n : ℕ) → IsPartOf T ranges p → p.before < n → n ≤ p.end →
    IsAside p (matching_place p.numbers.items n) ↔ ((0 < p.place) × IsOlderOrdered T p.place p.before n)

-- So each isOrderedBefore whose verdict the part does not know is set aside.
abbrev pub AsideIsAll : Type 0
AsideIsAll =
    (T : Recording) (ranges : List ByteRange) (p : Part) (n : ℕ) (B : Span) → IsPartOf T ranges p → p.before < n → n ≤ p.end → IsOrderedWith T n B → IsSetAside T p.place n B →
    IsAside p (matching_place p.numbers.items n)

-- ---- Going over the events

-- A byte is noted.
abbrev pub HasByte : List ℕ → ℕ → Type 0
HasByte keys b = list_any (nat_eq b) keys ≡ true

-- Event i has this op.
abbrev pub HasOp : Recording → ℕ → Op → Type 0
HasOp T i op = (e : Event) × (event T i ≡ Some e) × (e.op ≡ op)

-- Some event after event m up to event n stores to the byte at b.
pub record IsWritten (T : Recording) (m n b : ℕ) : Type 0 where
  pub number : ℕ
  pub after : m < number
  pub by_now : number ≤ n
  pub line : ℕ
  pub what : Written
  pub is_store : IsAct T number (Stores line what)
  pub writes_it : writes what b ≡ true

-- The events after event m up to event n were met.
pub record IsMet (T : Recording) (m before n : ℕ) (s : Met) : Type 0 where
  pub bytes : (b : ℕ) → HasByte s.written.keys b ↔ IsWritten T m n b
  pub aside : (i : ℕ) → Has s.aside.items i ↔ (IsOlderOrdered T m before i × (i ≤ n))

-- Where no range is ignored, it is the part.
abbrev pub PartOfAll : Type 0
PartOfAll = (T : Recording) (q r : ℕ) (K : List ℕ) → IsWellFormed T → IsPartBut T [] q r K ↔ IsPart T q r K

-- At each place of its stretch the part carries what the whole does, without the stores that are ignored.
abbrev pub PartCarriesAt : Type 0
PartCarriesAt =
    (T : Recording) (ranges : List ByteRange) (q r n : ℕ) (K : List ℕ) (k : ℕ) → IsPartBut T ranges q r K → q ≤ n → n ≤ r →
    IsTaken T ranges n k ↔ (Has K k × IsTaken (cut T K) ranges (matching_place K n) (matching_place K k))
