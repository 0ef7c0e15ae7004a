-- What the entries of events and lines tell at the end of a trace.
use Rattle.std.specs.Prelude.{◌≡◌, ℕ, suc, ◌==◌, ◌||◌, if◌then◌else◌, Bool, List, length, Option, Some, None, MatchOption, slice_index, ◌<◌, ◌≤◌, nat_lt, [], ◌∷◌}
use Rattle.pmt_laws.specs.Prelude.{Written, Stores, Recording, IsAct, IsSafe, Finding, NeverPersisted, IsTrace, history, last_flush}
use Rattle.pmt_safety.specs.Safety.{IsSafeFrom, safe_store_at, last_line_store_at}
use Rattle.pmt_rows.specs.declared.rows.Row.{Row}
use Rattle.pmt_rows.specs.Known.{row_after, IsKnown, AreLinkedAt}
use Rattle.pmt_rows.specs.declared.rows.Rows.{Rows}

-- Store j to line l is safe from this place on, or at no place.
abbrev pub IsSafePlace : Recording → ℕ → ℕ → Option ℕ → Type 0
IsSafePlace T l j place = MatchOption place ((n : ℕ) → ¬ IsSafe T l n j) (IsSafeFrom T l j)

-- The entry of a store that is safe at no place, which is 0 or the greatest of 32 bits.
abbrev pub tells_lost : ℕ → Bool
tells_lost entry = (entry == 0) || (entry == 4294967295)

-- The place that an entry tells.
abbrev pub place_in : ℕ → Option ℕ
place_in entry = if tells_lost entry then None else Some entry

-- The events have an entry each, beside one at 0, and that of a store tells from which place on it is safe.
pub record AreSafePlaces (T : Recording) (entries : List ℕ) : Type 0 where
  pub many : length entries ≡ suc (length T.events)
  pub each : (l j : ℕ) (w : Written) → IsAct T j (Stores l w) → IsSafePlace T l j (place_in (slice_index entries j))

-- ---- What the entries of events tell at the end of a trace

-- Event j is a store to line l, and is not safe at the end.
pub record IsLost (T : Recording) (l j : ℕ) : Type 0 where
  pub what : Written
  pub is_store : IsAct T j (Stores l what)
  pub later : safe_store_at T l (length T.events) < j

-- All lost stores come after this event.
abbrev pub AreLostAfter : Recording → ℕ → Type 0
AreLostAfter T before = (l j : ℕ) → IsLost T l j → before < j

-- The entry of a lost store with this number, where the last flush of its line is this one: the greatest number of 32 bits if that comes
-- after the store, else 0.
abbrev pub entry_of_lost : ℕ → ℕ → ℕ
entry_of_lost j flush = if nat_lt j flush then 4294967295 else 0

abbrev pub lost_entry : Recording → ℕ → ℕ → ℕ
lost_entry T l j = entry_of_lost j (last_flush l (history T (length T.events)))

-- Each event has an entry, beside one at 0. Of a store that is not safe at the end it tells whether a flush follows, of one that is safe
-- the place from which it is; and that of any event which is no such store is the number of a place.
pub record AreMarked (T : Recording) (entries : List ℕ) : Type 0 where
  pub trace : IsTrace T
  pub many : length entries ≡ suc (length T.events)
  pub lost : (l j : ℕ) → IsLost T l j → slice_index entries j ≡ lost_entry T l j
  pub others : (j : ℕ) → 1 ≤ j → j ≤ length T.events → ((l : ℕ) → ¬ IsLost T l j) → (1 ≤ slice_index entries j) × (slice_index entries j ≤ length T.events)
  pub safe : (l j : ℕ) (w : Written) → IsAct T j (Stores l w) → j ≤ safe_store_at T l (length T.events) → IsSafeFrom T l j (slice_index entries j)

-- What is found at event n, which has this entry.
abbrev pub lost_at : ℕ → ℕ → List Finding
lost_at n entry = if tells_lost entry then NeverPersisted n (entry == 4294967295) ∷ [] else []

-- ---- What the entries of one line's stores tell at the end of a trace

-- Line l ends with this row, and the entry of each store to it that is not safe is the store before it to the line.
pub record IsLineEnd (T : Recording) (l : ℕ) (row : Row) (entries : List ℕ) : Type 0 where
  pub ends : row ≡ row_after (λ k. safe_store_at T k (length T.events)) (history T (length T.events)) l
  pub many : length entries ≡ suc (length T.events)
  pub pending : (i : ℕ) → IsLost T l (suc i) → slice_index entries (suc i) ≡ last_line_store_at T l i

-- Now these entries tell whether a flush follows, and all others are as they were.
pub record IsLineMarked (T : Recording) (l : ℕ) (old new : List ℕ) : Type 0 where
  pub many : length new ≡ length old
  pub own : (j : ℕ) → IsLost T l j → slice_index new j ≡ lost_entry T l j
  pub others : (j : ℕ) → ¬ IsLost T l j → slice_index new j ≡ slice_index old j

-- All lost stores to line l come after this event.
abbrev pub IsLineLostAfter : Recording → ℕ → ℕ → Type 0
IsLineLostAfter T l before = (j : ℕ) → IsLost T l j → before < j

-- These are the rows of lines and the entries of events after the first n events of the trace.
pub record AreEndsOf (T : Recording) (n : ℕ) (r : Rows) (xs : List ℕ) : Type 0 where
  pub trace : IsTrace T
  pub rows : IsKnown (history T n) r
  pub entries : AreLinkedAt T n xs
