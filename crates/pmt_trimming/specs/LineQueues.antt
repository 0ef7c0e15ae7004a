-- Lines, or marks, that lie in a row, and what leaves the front of the lines.
use Rattle.std.specs.Prelude.{◌≡◌, ℕ, ◌+◌, ◌-◌, ◌<◌, ◌≤◌, ◌⊎◌, Bool, true, false, List, [], ◌∷◌, ◌++◌, length, take, drop, sum}
use Rattle.pmt_trimming.specs.declared.pass.Mark.{Mark}

-- These bytes, cut into lines of these lengths.
abbrev pub cut_by : List ℕ → List ℕ → List (List ℕ)
cut_by [] bytes = []
cut_by (n ∷ lengths) bytes = take n bytes ∷ cut_by lengths (drop n bytes)

-- The bytes from this place on are just those of the lines.
abbrev pub AreCut : List ℕ → ℕ → List ℕ → Type 0
AreCut lengths start bytes = start + sum lengths ≡ length bytes

-- The text, and the lines after it.
pub record Queued : Type 0 where
  pub text : List ℕ
  pub lines : List (List ℕ)

-- The first bytes are the text, and those from the start on are just those of the lines.
pub record IsQueue (lengths : List ℕ) (end start : ℕ) (bytes : List ℕ) : Type 0 where
  pub before : end ≤ start
  pub cut : AreCut lengths start bytes

-- The bytes between the text and the start, whose lines have left, are fewer than 4096, or no more than half of all.
abbrev pub HasLittleLeft : ℕ → ℕ → List ℕ → Type 0
HasLittleLeft end start bytes = (start < end + 4096) ⊎ (start + start ≤ length bytes + (end + end))

-- A line that is kept; nothing of one that is not.
abbrev pub kept_text : Bool → List ℕ → List ℕ
kept_text true line = line
kept_text false line = []

-- The lines whose flag is set.
abbrev pub kept_texts : List Bool → List (List ℕ) → List ℕ
kept_texts [] lines = []
kept_texts (b ∷ flags) [] = []
kept_texts (b ∷ flags) (line ∷ lines) = kept_text b line ++ kept_texts flags lines

-- The first line has left, and stands after the text where it is kept.
abbrev pub Pops : List (List ℕ) → Bool → List ℕ → List (List ℕ) → List ℕ → Type 0
Pops [] kept text lines new = (lines ≡ []) × (new ≡ text)
Pops (line ∷ rest) kept text lines new = (lines ≡ rest) × (new ≡ text ++ kept_text kept line)

-- The first bytes end before a run of bytes, or where it begins.
pub record IsRun (end from at : ℕ) : Type 0 where
  pub before : end ≤ from
  pub whole : from ≤ at

-- The first bytes, and after them the run.
abbrev pub run_text : ℕ → ℕ → ℕ → List ℕ → List ℕ
run_text end from at bytes = take end bytes ++ take (at - from) (drop from bytes)

-- The bytes from the end of the run on are just those of the lines, of which so many have left.
pub record AreHeld (end from at left : ℕ) (lengths bytes : List ℕ) : Type 0 where
  pub run : IsRun end from at
  pub some : left ≤ length lengths
  pub cut : AreCut (drop left lengths) at bytes

-- The marks of events, the oldest first.
pub record MarkRow : Type 0 where
  pub items : List Mark
