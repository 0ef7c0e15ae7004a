-- Which crashes are listed, how one is told, and the words that ask for one.
use Rattle.std.specs.Prelude.{◌≡◌, ℕ, suc, ◌-◌, ◌*◌, ◌^◌, ◌≤◌, ◌==◌, ◌&&◌, ◌||◌, not, min, nat_le, Bool, true, false, List, [], ◌∷◌, ◌++◌, length, Option, None, Some, codes, ◌/◌, ◌<◌}
use Rattle.pmt_laws.specs.Prelude.{Event, Layout, Act, Stores, Flushes, Clflushes, Fences, Asserts, Recording, VectorsAt, act, count_at, event, front_at, flat_map, join_with_byte}
use Rattle.pmt_text.specs.Spelling.{numeral, address, ended}
use Rattle.pmt_text.specs.Judging.{number_in, fields_of, capped}
use Rattle.pmt_image.specs.declared.crash.LineStores.{LineStores}

-- ---- Places

abbrev pub stores_act : Act → Bool
stores_act (Stores l w) = true
stores_act (Flushes t l) = false
stores_act (Clflushes l) = false
stores_act (Fences t) = false
stores_act Asserts = false

-- Stores can get safe at it.
abbrev pub raises_act : Act → Bool
raises_act (Stores l w) = false
raises_act (Flushes t l) = false
raises_act (Clflushes l) = true
raises_act (Fences t) = true
raises_act Asserts = false

abbrev pub is_kind_of : (Act → Bool) → Layout → Option Event → Bool
is_kind_of kind f None = false
is_kind_of kind f (Some e) = kind (act f e)

-- Event n is of this kind.
abbrev pub is_kind : (Act → Bool) → Recording → ℕ → Bool
is_kind kind T n = is_kind_of kind T.format (event T n)

-- Place n of the trace comes right after a fence or a clflush; or right after a store or at the beginning, with no store coming next.
abbrev pub turns : Recording → ℕ → Bool
turns T n = nat_le n (length T.events) && (is_kind raises_act T n || (((n == 0) || is_kind stores_act T n) && not (is_kind stores_act T (suc n))))

-- The places leave the same of each line.
pub record AreAlike (T : Recording) (m n : ℕ) : Type 0 where
  pub fronts : (l : ℕ) → front_at T l m ≡ front_at T l n
  pub counts : (l : ℕ) → count_at T l m ≡ count_at T l n

-- Each place right before an event that is no store, or right after one, or at the end, is like one of them; and what a crash may
-- leave at any place, one may leave at one of them.
pub record HaveAllCrashes (T : Recording) : Type 0 where
  pub before : (n : ℕ) → n ≤ length T.events → is_kind stores_act T (suc n) ≡ false → (m : ℕ) × (turns T m ≡ true) × AreAlike T m n
  pub after : (n : ℕ) → suc n ≤ length T.events → is_kind stores_act T (suc n) ≡ false → (m : ℕ) × (turns T m ≡ true) × AreAlike T m (suc n)
  pub whole : (n : ℕ) → n ≤ length T.events → (v : ℕ → ℕ) → VectorsAt T n v → (m : ℕ) × (turns T m ≡ true) × VectorsAt T m v

-- ---- Words

-- A line's address is that of its first byte, or the greatest of 64 bits if it lies beyond.
abbrev pub line_words : ℕ → LineStores → List ℕ
line_words size x = codes " --line 0x" ++ numeral 16 (min (x.line * size) (2 ^ 64 - 1)) ++ codes ":" ++ numeral 10 x.stores

abbrev pub all_words : Bool → List ℕ
all_words true = codes " --all"
all_words false = []

-- The words of a crash, with LF.
abbrev pub crash_words : ℕ → ℕ → Bool → List LineStores → List ℕ
crash_words size place all lines = codes "--at " ++ numeral 10 place ++ all_words all ++ flat_map (line_words size) lines ++ 10 ∷ []

-- The word of --line: an address, and a number of stores.
abbrev pub line_word : ℕ → ℕ → List ℕ
line_word a n = address a ++ 58 ∷ numeral 10 n

-- The word asks for the first k stores of the line of the address a. A number of more than 64 bits asks for the greatest one of 64 bits.
pub record Asks (word : List ℕ) (a k : ℕ) : Type 0 where
  pub number : ℕ
  pub spelled : word ≡ line_word a number
  pub is_address : a < 2 ^ 48
  pub stores : k ≡ capped number

-- ---- A line of the list

abbrev pub all_arguments : Bool → List (List ℕ)
all_arguments true = codes "--all" ∷ []
all_arguments false = []

abbrev pub line_arguments : ℕ → LineStores → List (List ℕ)
line_arguments size x = codes "--line" ∷ line_word (capped (x.line * size)) x.stores ∷ []

abbrev pub crash_arguments : ℕ → ℕ → Bool → List LineStores → List (List ℕ)
crash_arguments size place all lines = codes "--at" ∷ numeral 10 place ∷ (all_arguments all ++ flat_map (line_arguments size) lines)

-- The line of a crash is these words, with a space between each two; cut at its spaces it gives them back. The word behind --at is read as
-- the place. The word of a line whose address has 48 bits asks for the line and its stores, and for nothing else.
pub record CrashesAreReadBack : Type 0 where
  pub spelled : (size place : ℕ) (all : Bool) (lines : List LineStores) → crash_words size place all lines ≡ ended (join_with_byte 32 (crash_arguments size place all lines))
  pub cut : (size place : ℕ) (all : Bool) (lines : List LineStores) → fields_of (join_with_byte 32 (crash_arguments size place all lines)) ≡ crash_arguments size place all lines
  pub place : (n : ℕ) → number_in 10 (numeral 10 n) ≡ Some n
  pub asks : (size : ℕ) (x : LineStores) → x.line * size < 2 ^ 48 → x.stores < 2 ^ 64 → Asks (line_word (capped (x.line * size)) x.stores) (x.line * size) x.stores
  pub only : (size a k : ℕ) (x : LineStores) → 0 < size → x.line * size < 2 ^ 48 → x.stores < 2 ^ 64 → Asks (line_word (capped (x.line * size)) x.stores) a k →
      (a / size ≡ x.line) × (k ≡ x.stores)
