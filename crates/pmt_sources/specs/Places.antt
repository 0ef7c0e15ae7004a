-- The places of source files that words name, the lines that stand there, and how a terminal shows them.
use Rattle.std.specs.Prelude.{ℕ, zero, suc, ◌-◌, ◌==◌, if◌then◌else◌, List, [], ◌∷◌, Option, None, Some, ◌≡◌, ◌≢◌, ◌<◌, ◌≤◌, ◌++◌, get_or, nat_le, ◌&&◌, ◌||◌, Bool}
use Rattle.std.specs.List.{AllByRecursion, before_first}
use Rattle.pmt_text.specs.Judging.{number_in}
use Rattle.pmt_asked.specs.Choosing.{frame_of}
use Rattle.pmt_asked.specs.declared.labels.Labels.{Labels}
use Rattle.pmt_sources.specs.declared.place.SourcePlace.{SourcePlace}
use Rattle.pmt_sources.specs.declared.found.SourceLine.{SourceLine}

-- What stands before the first LF, or all.
abbrev pub front_line : List ℕ → List ℕ
front_line [] = []
front_line (b ∷ text) = if b == 10 then [] else b ∷ front_line text

-- What stands after the first LF; nothing where there is none.
abbrev pub after_line : List ℕ → List ℕ
after_line [] = []
after_line (b ∷ text) = if b == 10 then text else after_line text

-- What stands after so many lines.
abbrev pub after_lines : ℕ → List ℕ → List ℕ
after_lines zero text = text
after_lines (suc n) text = after_lines n (after_line text)

-- The first line of a text; the last one of all may have no LF.
abbrev pub first_line : List ℕ → Option (List ℕ)
first_line [] = None
first_line (b ∷ text) = Some (front_line (b ∷ text))

-- The line with this number, from 1.
abbrev pub line_at : ℕ → List ℕ → Option (List ℕ)
line_at number text = first_line (after_lines (number - 1) text)

-- ---- The places of source files that words name

-- The greatest number of a line.
abbrev pub most_line : ℕ
most_line = 9_999_999

-- No colon is among these bytes.
abbrev pub NoColon : List ℕ → Type 0
NoColon bytes = AllByRecursion (λ b. b ≢ 58) bytes

-- The word is the name of a file, its last colon, and the number of a line, from 1.
pub record IsPlace (word file : List ℕ) (line : ℕ) : Type 0 where
  pub digits : List ℕ
  pub whole : word ≡ file ++ 58 ∷ digits
  pub last : NoColon digits
  pub number : number_in 10 digits ≡ Some line
  pub named : file ≢ []
  pub from_1 : 0 < line
  pub most : line ≤ most_line

-- Both are one line of one file.
abbrev pub AreSame : SourcePlace → SourcePlace → Type 0
AreSame a b = (a.file.now ≡ b.file.now) × (a.line ≡ b.line)

-- ---- Which line of which file stands below a row

-- What stands before the first space, or all.
abbrev pub first_word : List ℕ → List ℕ
first_word text = before_first (λ b. b == 32) text

-- The innermost frame of event i begins with this place.
pub record Names (labels : Labels) (i : ℕ) (file : List ℕ) (line : ℕ) : Type 0 where
  pub frame : List ℕ
  pub own : frame_of labels i ≡ Some frame
  pub place : IsPlace (first_word frame) file line

-- Of these events, a row each, the one at this place of the list has this line of source below it: the one that its label names, unless the
-- label of an earlier one names it too.
abbrev pub IsUnder : Labels → List ℕ → ℕ → Option SourcePlace → Type 0
IsUnder labels events index None =
    (file : List ℕ) (line : ℕ) → Names labels (get_or events index 0) file line → (j : ℕ) × (j < index) × Names labels (get_or events j 0) file line
IsUnder labels events index (Some p) =
    Names labels (get_or events index 0) p.file.now p.line × ((j : ℕ) → j < index → ¬ Names labels (get_or events j 0) p.file.now p.line)

-- No line is of this place.
abbrev pub NoLineAt : SourcePlace → List SourceLine → Type 0
NoLineAt p lines = AllByRecursion (λ line. ¬ AreSame line.place p) lines

-- The line is the first of these that is of this place.
pub record IsFirstAt (p : SourcePlace) (lines : List SourceLine) (line : SourceLine) : Type 0 where
  pub before : List SourceLine
  pub after : List SourceLine
  pub stands : lines ≡ before ++ line ∷ after
  pub same : AreSame line.place p
  pub first : NoLineAt p before

-- ---- What a terminal shows of a line

abbrev within : ℕ → ℕ → ℕ → Bool
within low high c = nat_le low c && nat_le c high

-- The character is a control, or turns the way in which others are read.
abbrev pub is_hidden : ℕ → Bool
is_hidden c =
    nat_le c 31 || (within 127 159 c || (c == 1564 || (within 8206 8207 c || (within 8232 8238 c || within 8294 8297 c))))

-- What stands for a character: a space for a tab, and a sign for what is hidden.
abbrev pub sign : ℕ → ℕ
sign c = if c == 9 then 32 else (if is_hidden c then 65533 else c)
