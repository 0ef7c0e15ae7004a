-- How many bytes a reader of lines has read, from one call to the next.
use Rattle.std.proofs.Common.{ℕ, ◌+◌, ◌≤◌, List, ◌++◌, length, Option, arith}
use Rattle.std.proofs.lemmas.List.{length-append}
use Rattle.std.proofs.KnownBytes.{Consumes-trans}
use Rattle.std.specs.Io.KnownBytes.{Consumes}
use Rattle.pmt_text.specs.Coming.{byte_limit}
use Rattle.pmt_text.specs.ScriptInputs.{ReadsWithin}

-- these bytes were given at first, these are left, and there is room for so many
abbrev IsRead : Option (List ℕ) → Option (List ℕ) → ℕ → Type 0
IsRead first known room = (bytes : List ℕ) × (length bytes + room ≤ byte_limit) × Consumes first known bytes

module _ (first known : Option (List ℕ)) (room : ℕ) (read : IsRead first known room) where
  pub read-within : ReadsWithin (byte_limit + 1) first known
  read-within = (read.0, omega (arith, read.1), read.2)

  -- a read gave this piece
  pub read-piece : (new : Option (List ℕ)) (left : ℕ) (piece : List ℕ) → length piece + left ≤ room → Consumes known new piece → IsRead first new left
  read-piece new left piece few took = (read.0 ++ piece, omega (arith, read.1, few, length-append read.0 piece), Consumes-trans first known new read.0 piece read.2 took)

  -- a read gave at most one byte, which is not judged
  pub read-over : (new : Option (List ℕ)) (piece : List ℕ) → length piece ≤ 1 → Consumes known new piece → ReadsWithin (byte_limit + 1) first new
  read-over new piece few took = (read.0 ++ piece, omega (arith, read.1, few, length-append read.0 piece), Consumes-trans first known new read.0 piece read.2 took)
