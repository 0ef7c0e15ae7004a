-- Bytes without LF.
use Rattle.std.specs.Prelude.{◌≢◌, ℕ, ◌<◌, List, length, slice_index}

-- no LF stands there
abbrev pub IsOneLine : List ℕ → Type 0
IsOneLine bytes = (k : ℕ) → k < length bytes → slice_index bytes k ≢ 10
