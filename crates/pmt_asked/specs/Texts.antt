-- Texts of events by their numbers.
use Rattle.std.specs.Prelude.{ℕ, zero, suc, ◌≤◌, List, map, length, Option, None, option_map, slice_get, unwrap_or}

-- The text with this number: 0 is that of none, and each other is one more than its place.
abbrev pub text_at : {S : Type 0} → List S → ℕ → Option S
text_at texts zero = None
text_at texts (suc place) = slice_get texts place

-- What the text with this number tells.
abbrev pub told_at : {S : Type 0} → (S → List ℕ) → List S → ℕ → Option (List ℕ)
told_at tells texts number = option_map tells (text_at texts number)

-- What the texts with these numbers tell.
abbrev pub all_told : {S : Type 0} → (S → List ℕ) → List S → List ℕ → List (Option (List ℕ))
all_told tells texts numbers = map (told_at tells texts) numbers

-- The number of event n.
abbrev pub number_at : List ℕ → ℕ → ℕ
number_at numbers n = unwrap_or (slice_get numbers n) 0

-- Each number is 0 or that of a text.
abbrev pub AreNumbers : {S : Type 0} → List S → List ℕ → Type 0
AreNumbers texts numbers = (n : ℕ) → number_at numbers n ≤ length texts
