-- What is known of the lines of a trace under way, and what the entries of its events tell.
use Rattle.std.specs.Prelude.{◌≡◌, ℕ, false, List, map, nat_eq, ◌<◌, ◌≤◌, [], ◌∷◌, length, slice_index, slice_set, suc, ◌==◌, ◌↔◌, ◌⊎◌, if◌then◌else◌, ◌++◌}
use Rattle.pmt_laws.specs.Prelude.{Act, has_line, lines_of, last_flush, Written, Stores, Recording, IsAct, IsDistinct}
use Rattle.pmt_safety.specs.Safety.{last_line_store, safe_store, last_line_store_at, safe_store_at, IsSafeFrom}
use Rattle.pmt_rows.specs.declared.rows.Row.{Row}
use Rattle.pmt_rows.specs.declared.rows.Rows.{Rows}

-- The row of line l, where these tell its last store, the last one that is safe, and its last flush or clflush.
abbrev pub row_by : (ℕ → ℕ) → (ℕ → ℕ) → (ℕ → ℕ) → ℕ → Row
row_by last safe flush l = record { last_store = last l; safe = safe l; last_flush = flush l }

-- That of a line to which nothing has come.
abbrev pub empty_row : Row
empty_row = record { last_store = 0; safe = 0; last_flush = 0 }

-- These lines have a slot, among them all to which something has come, and each has its row.
pub record AreRows (lines : List ℕ) (last safe flush : ℕ → ℕ) (r : Rows) : Type 0 where
  pub placed : r.slots ≡ lines
  pub once : IsDistinct nat_eq lines
  pub rows : r.rows.items ≡ map (row_by last safe flush) lines
  pub others : (l : ℕ) → has_line l lines ≡ false → row_by last safe flush l ≡ empty_row

-- By numbers, the row of line l after the history, where `safe` has the last safe store of each line.
abbrev pub row_after : (ℕ → ℕ) → List Act → ℕ → Row
row_after safe h l = row_by (λ k. last_line_store k h) safe (λ k. last_flush k h) l

-- Each line has its row by numbers.
abbrev pub IsKnownWith : List ℕ → List Act → (ℕ → ℕ) → Rows → Type 0
IsKnownWith lines h safe r = AreRows lines (λ l. last_line_store l h) safe (λ l. last_flush l h) r

-- The lines with a slot are those that were stored or flushed, in order of first appearance, and the rows tell their last safe stores.
abbrev pub IsKnown : List Act → Rows → Type 0
IsKnown h r = IsKnownWith (lines_of h) h (λ l. safe_store l h) r

-- What tells the same of each line tells the same rows.
abbrev pub RowsBySame : Type 0
RowsBySame =
    (lines : List ℕ) (last safe flush last_now safe_now flush_now : ℕ → ℕ) (r : Rows) → ((l : ℕ) → row_by last_now safe_now flush_now l ≡ row_by last safe flush l) → AreRows lines last safe flush r →
    AreRows lines last_now safe_now flush_now r

-- ---- What the entries of the events of a trace tell, and the chains in which they lie

-- The entries lead from this number over these, each less than the one before it, to one that is at most low.
abbrev pub IsChain : List ℕ → ℕ → ℕ → List ℕ → Type 0
IsChain entries low number [] = number ≤ low
IsChain entries low number (j ∷ js) = (j ≡ number) × (low < j) × (j < length entries) × (slice_index entries j < j) × IsChain entries low (slice_index entries j) js

-- The entries of these numbers are set to the place.
abbrev pub with_place : List ℕ → List ℕ → ℕ → List ℕ
with_place entries [] place = entries
with_place entries (j ∷ js) place = with_place (slice_set entries j place) js place

-- ---- What the entries of the events of a trace tell, and laws of each step

-- The first n events have an entry each, beside one at 0. Of a store to line l up to `safe l` it is the place from which the store is
-- safe, of one that comes later the store before it to its line, or 0, and of another event its own number.
pub record AreLinked (T : Recording) (n : ℕ) (safe : ℕ → ℕ) (entries : List ℕ) : Type 0 where
  pub many : length entries ≡ suc n
  pub come : (l : ℕ) → safe l ≤ n
  pub passed : (l j : ℕ) (w : Written) → j ≤ n → IsAct T j (Stores l w) → j ≤ safe l → IsSafeFrom T l j (slice_index entries j)
  pub pending : (l i : ℕ) (w : Written) → i < n → IsAct T (suc i) (Stores l w) → safe l < suc i → slice_index entries (suc i) ≡ last_line_store_at T l i
  pub others : (i : ℕ) (a : Act) → i < n → IsAct T (suc i) a → ((l : ℕ) (w : Written) → a ≡ Stores l w → ⊥) → slice_index entries (suc i) ≡ suc i

-- So they are at a place of the trace.
abbrev pub AreLinkedAt : Recording → ℕ → List ℕ → Type 0
AreLinkedAt T n entries = AreLinked T n (λ l. safe_store_at T l n) entries

-- The entry at 0 alone.
abbrev pub NoneLinked : Type 0
NoneLinked = (T : Recording) → AreLinkedAt T 0 (0 ∷ [])

-- One more event: a store has the store before it to its line, another event its own number.
pub record EachLinked : Type 0 where
  pub store : (T : Recording) (n l : ℕ) (w : Written) (safe : ℕ → ℕ) (entries : List ℕ) → IsAct T (suc n) (Stores l w) → AreLinked T n safe entries →
      AreLinked T (suc n) safe (entries ++ last_line_store_at T l n ∷ [])
  pub other : (T : Recording) (n : ℕ) (a : Act) (safe : ℕ → ℕ) (entries : List ℕ) → IsAct T (suc n) a → ((l : ℕ) (w : Written) → a ≡ Stores l w → ⊥) → AreLinked T n safe entries →
      AreLinked T (suc n) safe (entries ++ suc n ∷ [])

-- The last safe store of line l is now this one.
abbrev pub raised : ℕ → ℕ → (ℕ → ℕ) → ℕ → ℕ
raised l last safe k = if l == k then last else safe k

-- A store to line l, or 0, has a chain down to the last safe one; once its entries are set to the place at which the last safe store has
-- passed them, they tell the places up to that store.
pub record RaiseLinks : Type 0 where
  pub chain : (T : Recording) (m l last : ℕ) (safe : ℕ → ℕ) (entries : List ℕ) → AreLinked T m safe entries → last ≤ m → ((last ≡ 0) ⊎ ((w : Written) × IsAct T last (Stores l w))) →
      (stores : List ℕ) × IsChain entries (safe l) last stores
  pub links : (T : Recording) (m n l last : ℕ) (safe : ℕ → ℕ) (entries stores : List ℕ) → AreLinked T m safe entries → last ≤ m → ((last ≡ 0) ⊎ ((w : Written) × IsAct T last (Stores l w))) →
      safe l ≤ last → safe_store_at T l n ≤ safe l → last ≤ safe_store_at T l (suc n) → IsChain entries (safe l) last stores →
      AreLinked T m (raised l last safe) (with_place entries stores (suc n))

-- Told which stores are safe, the entries tell it of all: an event is a store that is not safe exactly where its entry is below it.
abbrev pub PendingIsBelow : Type 0
PendingIsBelow =
    (T : Recording) (n j : ℕ) (entries : List ℕ) → AreLinkedAt T n entries → 1 ≤ j → j ≤ n → j ≤ length T.events →
    (slice_index entries j < j) ↔ ((l : ℕ) × (w : Written) × IsAct T j (Stores l w) × (safe_store_at T l n < j))
