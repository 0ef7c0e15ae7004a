-- The two assertions, by the last stores to the bytes of their ranges, line by line.
use Rattle.std.specs.Prelude.{◌≡◌, ℕ, ◌<◌, ◌≤◌, ◌⊎◌, ◌↔◌, List, slice_index, ◌≢◌, Option, Some, None, ◌+◌, ◌*◌, length, get_or, ◌-◌, ◌^◌, MatchOption}
use Rattle.pmt_laws.specs.Prelude.{Span, line_of, Recording, IsTrace, history, InSpan, PersistPasses, OrderedPasses, lines_of}
use Rattle.pmt_safety.specs.Safety.{safe_store_at}
use Rattle.pmt_rows.specs.Known.{AreLinkedAt}
use Rattle.pmt_tables.specs.Lasts.{last_number, IsLeastAbove, IsNewest}
use Rattle.pmt_tables.specs.Slots.{IsSlotOf, AreBytesOf, IsSpanned}
use Rattle.pmt_tables.specs.declared.spanned.LineBytes.{LineBytes}
use Rattle.pmt_tables.specs.declared.spanned.Spanned.{Spanned}
use Rattle.pmt_sweep.specs.declared.latest.Latest.{Latest}
use Rattle.pmt_sweep.specs.declared.line_words.WordBytes.{WordBytes}
use Rattle.pmt_sweep.specs.Known.{last_in_line, IsLineAt}
use Rattle.pmt_sweep.specs.declared.oldest.OldestStore.{OldestStore}
use Rattle.pmt_sweep.specs.declared.known.Known.{Known}
use Rattle.pmt_sweep.specs.declared.placed.Placed.{Placed}

-- The last store to the byte at b, if there is one, is safe.
abbrev pub IsByteSafe : Recording → ℕ → ℕ → Type 0
IsByteSafe T n b = last_number T n b ≤ safe_store_at T (line_of T.format b) n

-- isPersist passes exactly if each byte of the range is safe.
abbrev pub PersistByBytes : Type 0
PersistByBytes = (T : Recording) (n : ℕ) (A : Span) → IsTrace T → PersistPasses (history T n) A ↔ ((b : ℕ) → InSpan A b → IsByteSafe T n b)

-- The last store to the byte at a comes before the one to the byte at b on their line, or is safe, from a place no later than that one.
abbrev pub IsNoLaterThan : Recording → ℕ → List ℕ → ℕ → ℕ → Type 0
IsNoLaterThan T n entries a b =
    ((line_of T.format a ≡ line_of T.format b) × (last_number T n a ≤ last_number T n b))
    ⊎ (IsByteSafe T n a × (slice_index entries (last_number T n a) ≤ last_number T n b))

-- isOrderedBefore passes exactly if so it is of each byte of the first range and each of the second that have last stores.
abbrev pub OrderedByLinks : Type 0
OrderedByLinks =
    (T : Recording) (n : ℕ) (A B : Span) (entries : List ℕ) → IsTrace T → AreLinkedAt T n entries →
    OrderedPasses (history T n) A B ↔
    ((a b : ℕ) → InSpan A a → InSpan B b → 0 < last_number T n a → 0 < last_number T n b → IsNoLaterThan T n entries a b)

-- ---- Lines of which some have a number: `told line` is the number of the line, if it has one

-- No line has one.
abbrev pub none_told : ℕ → Option ℕ
none_told l = None

-- The line had none and gets this one.
pub record Tells (old new : ℕ → Option ℕ) (line number : ℕ) : Type 0 where
  pub fresh : old line ≡ None
  pub told : new line ≡ Some number
  pub others : (l : ℕ) → l ≢ line → new l ≡ old l

-- The greatest number with its line, and the greatest of the others; where there is none, 0.
pub record IsLatest (told : ℕ → Option ℕ) (x : Latest) : Type 0 where
  pub all : (l n : ℕ) → told l ≡ Some n → ((l ≡ x.line) × (n ≤ x.first)) ⊎ (n ≤ x.second)
  pub first : (x.first ≡ 0) ⊎ (told x.line ≡ Some x.first)
  pub second : (x.second ≡ 0) ⊎ ((l : ℕ) × (l ≢ x.line) × (told l ≡ Some x.second))
  pub falling : x.second ≤ x.first

-- The greatest number of the other lines; where there is none, 0.
pub record IsLatestBut (told : ℕ → Option ℕ) (line number : ℕ) : Type 0 where
  pub all : (l n : ℕ) → told l ≡ Some n → l ≢ line → n ≤ number
  pub reached : (number ≡ 0) ⊎ ((l : ℕ) × (l ≢ line) × (told l ≡ Some number))

-- These are the bytes of word i that are among those of the line from low up to the one before high; there are some.
pub record IsPartOfWord (i low high : ℕ) (p : WordBytes) : Type 0 where
  pub word : p.word ≡ i
  pub some : p.low < p.high
  pub eight : p.high ≤ 8
  pub just : (k : ℕ) → k < 8 → ((p.low ≤ k) × (k < p.high)) ↔ ((low ≤ i * 8 + k) × (i * 8 + k < high))

-- ---- Of lines the oldest of the last stores to their bytes, as it was found once

-- That of a line of which nothing was asked.
abbrev pub none_found : OldestStore
none_found = record { last_store = 0; oldest = 0 }

-- It was the oldest of line l when this last store came, which is one of the first n events; until the next store to the line it still is.
pub record IsOldestOf (T : Recording) (n l : ℕ) (x : OldestStore) : Type 0 where
  pub by_now : x.last_store ≤ n
  pub oldest : IsLeastAbove 0 0 T.format.line_size (last_in_line T x.last_store l) x.oldest

-- So it is of each of these lines, by its slot.
pub record AreOldestAmong (T : Recording) (n : ℕ) (lines : List ℕ) (found : List OldestStore) : Type 0 where
  pub few : length found ≤ length lines
  pub each : (l slot : ℕ) → IsSlotOf l slot lines → IsOldestOf T n l (get_or found slot none_found)

-- The lines are those that were stored or flushed among the first n events, in order of first appearance.
abbrev pub AreOldestOf : Recording → ℕ → List OldestStore → Type 0
AreOldestOf T n found = AreOldestAmong T n (lines_of (history T n)) found

-- What is found at slot p is what it was, or it is this slot and that was found.
abbrev pub IsKeptAt : ℕ → OldestStore → List OldestStore → List OldestStore → ℕ → Type 0
IsKeptAt slot x old new p = (get_or new p none_found ≡ get_or old p none_found) ⊎ ((p ≡ slot) × (get_or new p none_found ≡ x))

-- ---- What the assertions ask of the bytes of a range in one line

-- P holds of each byte of A in line l.
abbrev pub EachIn : Recording → Span → ℕ → (ℕ → Type 0) → Type 0
EachIn T A l P = (b : ℕ) → InSpan A b → line_of T.format b ≡ l → P b

-- The last stores to the bytes of A in line l are safe.
abbrev pub IsLineSafe : Recording → ℕ → Span → ℕ → Type 0
IsLineSafe T n A l = EachIn T A l (IsByteSafe T n)

-- None of them comes after this store.
abbrev pub IsLineBefore : Recording → ℕ → Span → ℕ → ℕ → Type 0
IsLineBefore T n A l store = EachIn T A l (λ b. last_number T n b ≤ store)

-- The last stores to bytes of A come no later than those to the bytes of B in line l.
abbrev pub IsLineOrdered : Recording → ℕ → List ℕ → Span → Span → ℕ → Type 0
IsLineOrdered T n entries A B l =
    EachIn T B l (λ b. 0 < last_number T n b → (a : ℕ) → InSpan A a → 0 < last_number T n a → IsNoLaterThan T n entries a b)

-- The newest of the last stores to the bytes of A in line l, or 0 where there is none.
pub record IsNewestIn (T : Recording) (n : ℕ) (A : Span) (l newest : ℕ) : Type 0 where
  pub bytes : LineBytes
  pub are : AreBytesOf T.format A l bytes
  pub told : IsNewest bytes.low bytes.high (last_in_line T n l) newest

-- The oldest of them, or 0 where there is none.
pub record IsOldestIn (T : Recording) (n : ℕ) (A : Span) (l oldest : ℕ) : Type 0 where
  pub bytes : LineBytes
  pub are : AreBytesOf T.format A l bytes
  pub told : IsLeastAbove 0 bytes.low bytes.high (last_in_line T n l) oldest

-- What stands for the place from which a store is safe that is not.
abbrev pub no_place : ℕ
no_place = 2 ^ 32 - 1

-- The place from which this store to line l is safe, by its entry.
pub record IsToldFrom (T : Recording) (n : ℕ) (entries : List ℕ) (l store place : ℕ) : Type 0 where
  pub safe : store ≤ safe_store_at T l n → place ≡ slice_index entries store
  pub pending : safe_store_at T l n < store → place ≡ no_place

-- The place from which the newest of the last stores to bytes of A in line l is safe.
pub record IsLineSafeFrom (T : Recording) (n : ℕ) (entries : List ℕ) (A : Span) (l place : ℕ) : Type 0 where
  pub newest : ℕ
  pub some : 0 < newest
  pub greatest : IsLineBefore T n A l newest
  pub reached : (b : ℕ) × InSpan A b × (line_of T.format b ≡ l) × (last_number T n b ≡ newest)
  pub told : IsToldFrom T n entries l newest place

-- There is one where one of these bytes is stored.
abbrev pub IsLineTold : Recording → ℕ → List ℕ → Span → ℕ → Option ℕ → Type 0
IsLineTold T n entries A l o = MatchOption o (EachIn T A l (λ b. last_number T n b ≡ 0)) (IsLineSafeFrom T n entries A l)

-- Beside each line of B there is another line of which the last store to A is not safe: no store to B comes after that one is safe.
abbrev pub IsPendingApart : Recording → Span → (ℕ → Option ℕ) → Type 0
IsPendingApart T B told = (b : ℕ) → InSpan B b → (l : ℕ) × (l ≢ line_of T.format b) × (told l ≡ Some no_place)

-- The latest of these places, of all lines, or of some where no other matters to B.
pub record AreSafeFrom (T : Recording) (n : ℕ) (entries : List ℕ) (A B : Span) (x : Latest) : Type 0 where
  pub told : ℕ → Option ℕ
  pub latest : IsLatest told x
  pub some : (l p : ℕ) → told l ≡ Some p → IsLineSafeFrom T n entries A l p
  pub all : IsPendingApart T B told ⊎ ((l : ℕ) → IsLineTold T n entries A l (told l))

-- Of the lines below one.
pub record AreSafeFromBelow (T : Recording) (n : ℕ) (entries : List ℕ) (A : Span) (end : ℕ) (x : Latest) : Type 0 where
  pub told : ℕ → Option ℕ
  pub latest : IsLatest told x
  pub each : (l : ℕ) → l < end → IsLineTold T n entries A l (told l)
  pub beyond : (l : ℕ) → end ≤ l → told l ≡ None

-- A line that the range meets, with its place.
pub record IsAtLine (T : Recording) (n : ℕ) (A : Span) (s : Spanned) (p : Placed) (k : Known) : Type 0 where
  pub spanned : IsSpanned T.format A s
  pub from : s.first ≤ p.line
  pub to : p.line ≤ s.last
  pub line : IsLineAt T n p.line p.slot k
  pub small : p.slot < 2 ^ 32
