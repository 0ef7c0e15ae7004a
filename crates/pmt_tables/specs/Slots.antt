-- Where lines stand, and the lines that a range meets.
use Rattle.std.specs.Prelude.{◌≡◌, ◌≢◌, ◌<◌, ◌+◌, ◌-◌, ◌*◌, ◌/◌, ◌%◌, ◌^◌, ℕ, suc, List, [], ◌∷◌, ◌++◌, Some, Option, MatchOption, bit_and, bit_or, length, nat_eq, slice_get, slice_index, if◌then◌else◌, ◌≤◌, ◌↔◌}
use Rattle.pmt_laws.specs.Prelude.{Layout, Span, IsRange, line_of, IsFormat, InSpan, IsDistinct, list_any}
use Rattle.pmt_tables.specs.declared.spanned.Spanned.{Spanned}
use Rattle.pmt_tables.specs.declared.spanned.LineBytes.{LineBytes}

-- Line l stands at this slot.
abbrev pub IsSlotOf : ℕ → ℕ → List ℕ → Type 0
IsSlotOf l slot lines = slice_get lines slot ≡ Some l

-- A slot where line l stands, or none.
abbrev pub IsFound : ℕ → List ℕ → Option ℕ → Type 0
IsFound l lines found = MatchOption found ((slot : ℕ) → IsSlotOf l slot lines → ⊥) (λ slot. IsSlotOf l slot lines)

-- The cell at which the look with this number is made for a line, in an index of so many cells.
unfoldable pub cell_at : ℕ → ℕ → ℕ → ℕ
cell_at size line look =
    let mixed = (line / 2 ^ 14 * 0x9e3779b97f4a7c15) % 2 ^ 64 in
    let far = (look * bit_or (mixed / 2 ^ 32) 1) % 2 ^ 64 in
    bit_and (((line + mixed) % 2 ^ 64 + far) % 2 ^ 64) (size - 1)

-- A look for a line comes to this entry, and past no free cell before that.
abbrev pub IsReached : List ℕ → ℕ → ℕ → Type 0
IsReached cells line entry =
    (d : ℕ) × (d < length cells) × (slice_index cells (cell_at (length cells) line d) ≡ entry)
    × ((k : ℕ) → k < d → slice_index cells (cell_at (length cells) line k) ≢ 0)

-- Each line stands at one slot, and the cells have it, and one more.
abbrev pub AreIndexed : List ℕ → List ℕ → Type 0
AreIndexed lines cells = IsDistinct nat_eq lines × ((slot l : ℕ) → IsSlotOf l slot lines → IsReached cells l (suc slot))

-- The lines once line l has a slot: if it had none, it goes last.
abbrev pub insert_line : List ℕ → ℕ → List ℕ
insert_line lines l = if list_any (nat_eq l) lines then lines else lines ++ l ∷ []

-- The value is that of this range, in lines of this format.
pub record IsSpanned (f : Layout) (A : Span) (s : Spanned) : Type 0 where
  pub format : IsFormat f
  pub range : IsRange A
  pub low : s.first * f.line_size + s.low ≡ A.addr
  pub high : s.last * f.line_size + s.high ≡ A.addr + A.len
  pub size : s.size ≡ f.line_size
  pub first : s.first ≡ line_of f A.addr
  pub last : s.last ≡ line_of f (A.addr + A.len - 1)

-- The bytes of line l are those of the range that are of this line; there are some.
pub record AreBytesOf (f : Layout) (A : Span) (l : ℕ) (p : LineBytes) : Type 0 where
  pub some : p.low < p.high
  pub within : p.high ≤ f.line_size
  pub just : (o : ℕ) → o < f.line_size → ((p.low ≤ o) × (o < p.high)) ↔ InSpan A (l * f.line_size + o)

-- A byte of the range is of a line that it meets.
abbrev pub LinesAreMet : Type 0
LinesAreMet = (f : Layout) (A : Span) (s : Spanned) (b : ℕ) → IsSpanned f A s → InSpan A b → (s.first ≤ line_of f b) × (line_of f b ≤ s.last)
