-- Numbers of lines.
use Rattle.std.specs.Prelude.{◌≡◌, ◌≢◌, ℕ, ◌==◌, if◌then◌else◌, List, [], ◌∷◌, map, Option, None, Some, nat_eq, slice_get, unwrap_or}
use Rattle.std.specs.List.{IsDistinct}
use Rattle.pmt_explain.specs.declared.numbers.Numbered.{Numbered}

abbrev pub Numbers : Type 0
Numbers = List Numbered

-- The number of the line, if it has one.
abbrev pub number_in : Numbers → ℕ → Option ℕ
number_in [] line = None
number_in (row ∷ rows) line = if row.line == line then Some row.number else number_in rows line

-- The number of the line, or the other one where it has none.
abbrev pub number_at : ℕ → Numbers → ℕ → ℕ
number_at other numbers line = unwrap_or (number_in numbers line) other

-- The line gets this number, and no other line's is changed.
pub record Puts (line number : ℕ) (old new : Numbers) : Type 0 where
  pub here : (other : ℕ) → number_at other new line ≡ number
  pub others : (other l : ℕ) → l ≢ line → number_at other new l ≡ number_at other old l

abbrev pub line_in : Numbered → ℕ
line_in row = row.line

-- These are the lines, each once.
pub record IsTable (lines : List ℕ) (rows : Numbers) : Type 0 where
  pub same : lines ≡ map line_in rows
  pub distinct : IsDistinct nat_eq lines

-- The line stands at this place, with its number, or the other one where it had none.
pub record Reaches (line other place : ℕ) (old new : Numbers) : Type 0 where
  pub here : slice_get (map line_in new) place ≡ Some line
  pub number : number_in new line ≡ Some (number_at other old line)
  pub others : (l : ℕ) → l ≢ line → number_in new l ≡ number_in old l
