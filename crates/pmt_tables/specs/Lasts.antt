-- The last store to each byte of words: how it is kept, and what it tells of a trace.
use Rattle.std.specs.Prelude.{◌≡◌, ℕ, ◌<◌, ◌≤◌, ◌⊎◌, ◌↔◌, ◌==◌, ◌&&◌, nat_le, nat_lt, if◌then◌else◌, Bool, List, [], ◌++◌, map, get_or, slice_index, ◌-◌, ◌/◌, ◌%◌, ◌^◌, ◌∷◌, length, All, suc, ◌+◌, false, unwrap_or}
use Rattle.pmt_laws.specs.Prelude.{Written, Act, Stores, writes, Recording, IsTrace, IsAct, history, IsOverwritten, last_store_number, last_flush, IsRising, Has}
use Rattle.pmt_tables.specs.declared.words.Overwrite.{Overwrite}
use Rattle.pmt_tables.specs.declared.table.Table.{Table}

-- Of words, each with the numbers of the last stores to its bytes, 0 to 7, or 0 where there is none: the one of byte k of word i.
abbrev pub last_at : List (List ℕ) → ℕ → ℕ → ℕ
last_at words i k = slice_index (get_or words i []) k

-- Byte k is one of those from low up to high.
abbrev pub is_in : ℕ → ℕ → ℕ → Bool
is_in low high k = nat_le low k && nat_lt k high

-- A store has written these bytes of this word.
abbrev pub with_store : ℕ → ℕ → ℕ → ℕ → (ℕ → ℕ → ℕ) → ℕ → ℕ → ℕ
with_store word low high number last i k = if (i == word) && is_in low high k then number else last i k

-- These bytes have store j as their last one.
abbrev pub IsLastTo : ℕ → ℕ → (ℕ → ℕ) → ℕ → Type 0
IsLastTo low high last j = (k : ℕ) × (low ≤ k) × (k < high) × (last k ≡ j)

-- Of the last stores to these bytes, those above the flush, each once, by rising numbers, are added as overwritten by the later store.
pub record AddsOverwritten (flush later low high : ℕ) (last : ℕ → ℕ) (old new : List Overwrite) : Type 0 where
  pub found : List ℕ
  pub added : new ≡ old ++ map (λ j. record { earlier = j; later = later }) found
  pub rising : IsRising flush found
  pub just : (j : ℕ) → Has found j ↔ ((flush < j) × IsLastTo low high last j)

-- The number is the greatest of the last stores to these bytes, or 0 where there is none.
pub record IsNewest (low high : ℕ) (last : ℕ → ℕ) (number : ℕ) : Type 0 where
  pub reached : (number ≡ 0) ⊎ IsLastTo low high last number
  pub greatest : (k : ℕ) → low ≤ k → k < high → last k ≤ number

-- The number is the least of the last stores to these bytes above a bound, or 0 where there is none.
pub record IsLeastAbove (above low high : ℕ) (last : ℕ → ℕ) (number : ℕ) : Type 0 where
  pub reached : (number ≡ 0) ⊎ ((above < number) × IsLastTo low high last number)
  pub least : (k : ℕ) → low ≤ k → k < high → above < last k → (0 < number) × (number ≤ last k)

-- ---- How words are kept: one number each where one store wrote all that is known of it, else a table of its bytes

-- The store that wrote the bytes from `low_of` up to `high_of`, in one number.
abbrev pub number_of : ℕ → ℕ
number_of w = w / 256

abbrev pub low_of : ℕ → ℕ
low_of w = w / 16 % 16

abbrev pub high_of : ℕ → ℕ
high_of w = w % 16

abbrev pub last_by : ℕ → ℕ → ℕ
last_by w k = if is_in (low_of w) (high_of w) k then number_of w else 0

-- A number from here on is this and the slot of a table.
abbrev pub first_table : ℕ
first_table = 2 ^ 31

abbrev pub no_table : Table
no_table = record { numbers = [] }

abbrev pub last_of : List Table → ℕ → ℕ → ℕ
last_of tables w k = if nat_lt w first_table then last_by w k else slice_index (get_or tables (w - first_table) no_table).numbers k

abbrev pub last_in : List ℕ → List Table → ℕ → ℕ → ℕ
last_in words tables i k = last_of tables (slice_index words i) k

-- The last stores to the eight bytes of each word.
abbrev pub bytes_of : List Table → ℕ → List ℕ
bytes_of tables w =
    last_of tables w 0 ∷ last_of tables w 1 ∷ last_of tables w 2 ∷ last_of tables w 3 ∷ last_of tables w 4 ∷ last_of tables w 5 ∷ last_of tables w 6 ∷ last_of tables w 7 ∷ []

abbrev pub all_bytes : List ℕ → List Table → List (List ℕ)
all_bytes words tables = map (bytes_of tables) words

-- Of a word without a table: the bytes that the store wrote are some of its eight, or no store wrote any.
pub record IsWhole (w : ℕ) : Type 0 where
  pub some : (low_of w < high_of w) ⊎ (number_of w ≡ 0)
  pub eight : high_of w ≤ 8

-- The bytes from low up to high are all that are known of a word without a table.
abbrev pub is_covered : ℕ → ℕ → ℕ → Bool
is_covered w low high = nat_lt w first_table && (nat_le low (low_of w) && nat_le (high_of w) high)

-- Each word with a table has one of its own.
pub record AreWords (words : List ℕ) (tables : List Table) : Type 0 where
  pub eight : All (λ t. length t.numbers ≡ 8) tables
  pub inside : (i : ℕ) → i < length words → first_table ≤ slice_index words i → slice_index words i - first_table < length tables
  pub apart : (i j : ℕ) → i < length words → j < length words → first_table ≤ slice_index words i → slice_index words i ≡ slice_index words j → i ≡ j
  pub whole : (i : ℕ) → i < length words → slice_index words i < first_table → IsWhole (slice_index words i)

-- ---- What the words tell of a trace, and laws of each step

-- The number of the last store to the byte at b among the first n events, or 0.
abbrev pub last_number : Recording → ℕ → ℕ → ℕ
last_number T n b = unwrap_or (last_store_number b (history T n)) 0

-- The last stores to the eight bytes from address a on, after the first n events.
abbrev pub IsWordAt : Recording → ℕ → ℕ → (ℕ → ℕ) → Type 0
IsWordAt T n a last = (k : ℕ) → k < 8 → last k ≡ last_number T n (a + k)

-- The store writes the bytes of the word at address a from low up to high.
pub record WritesIn (a : ℕ) (w : Written) (low high : ℕ) : Type 0 where
  pub from : a + low ≡ w.addr
  pub to : a + high ≡ w.addr + length w.bytes

-- Before the first event there is none; a store changes the bytes that it writes, and no other event changes any.
pub record WordsGoOn : Type 0 where
  pub none : (T : Recording) (a : ℕ) → IsWordAt T 0 a (λ _. 0)
  pub store : (T : Recording) (n l a low high : ℕ) (w : Written) (last : ℕ → ℕ) → IsAct T (suc n) (Stores l w) → WritesIn a w low high → IsWordAt T n a last →
      IsWordAt T (suc n) a (λ k. if is_in low high k then suc n else last k)
  pub other : (T : Recording) (n a : ℕ) (act : Act) (last : ℕ → ℕ) → IsAct T (suc n) act → ((l k : ℕ) (w : Written) → act ≡ Stores l w → k < 8 → writes w (a + k) ≡ false) → IsWordAt T n a last →
      IsWordAt T (suc n) a last

-- A store overwrites those of the last stores to its bytes that come after the last flush of its line.
abbrev pub OverwrittenByWord : Type 0
OverwrittenByWord =
    (T : Recording) (n l a low high j : ℕ) (w : Written) (last : ℕ → ℕ) → IsTrace T → IsAct T (suc n) (Stores l w) → WritesIn a w low high → high ≤ 8 → IsWordAt T n a last →
    IsOverwritten T j (suc n) ↔ ((last_flush l (history T n) < j) × IsLastTo low high last j)
