-- What stands at the front of a text, and what the lanes of one load hold of it.
use Rattle.std.specs.Prelude.{◌≡◌, ℕ, ◌+◌, ◌*◌, ◌≤◌, Bool, ◌||◌, List, [], ◌∷◌, get_or, ◌-◌, ◌%◌, if◌then◌else◌}
use Rattle.std.specs.Char.{digit_value, is_ascii_digit}
use Rattle.std.specs.Int.{is_in_range}
use Rattle.std.specs.List.{prefix_len}

-- 0 to 9 and a to f
abbrev pub is_hex_digit : ℕ → Bool
is_hex_digit c = is_ascii_digit c || is_in_range 97 102 c

-- Digits stand first, at least one and at most so many, and no 0 before another digit.
abbrev pub IsNumberFirst : (ℕ → Bool) → ℕ → List ℕ → Type 0
IsNumberFirst is_digit most text =
    (1 ≤ prefix_len is_digit text) × (prefix_len is_digit text ≤ most) × (get_or text 0 0 ≡ 48 → prefix_len is_digit text ≡ 1)

-- the bytes that pairs of digits of base 16 write
abbrev pub paired : List ℕ → List ℕ
paired [] = []
paired (x ∷ []) = []
paired (x ∷ y ∷ rest) = (16 * digit_value x + digit_value y) ∷ paired rest

-- the value of a digit of base 16, and some number below 16 for any other byte
abbrev pub nibble : ℕ → ℕ
nibble c = if is_in_range 97 102 c then c - 87 else c % 16

-- two digits of base 16 in one byte
abbrev pub joined : List ℕ → List ℕ
joined [] = []
joined (x ∷ []) = []
joined (x ∷ y ∷ rest) = (16 * x + y) ∷ joined rest
