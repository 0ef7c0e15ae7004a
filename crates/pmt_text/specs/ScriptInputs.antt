-- What a reader's script is.
use Rattle.std.specs.Prelude.{◌≡◌, ℕ, ◌≤◌, Bool, nat_lt, List, length, take, Option, Some, None, IfSome, Result, Ok, Err, Vec}
use Rattle.std.specs.Io.KnownBytes.{Consumes}
use Rattle.pmt_model.specs.declared.event.Op.{Op}
use Rattle.pmt_text.specs.declared.kind.TextError.{TextError}
use Rattle.pmt_text.specs.declared.kind.SourceError.{SourceError}
use Rattle.pmt_text.specs.declared.kind.SourceError.TheVariants.{Text, TooMany, Read, OutOfMemory, Failed}
use Rattle.pmt_text.specs.Coming.{Items, script_coming}

-- A script of which at most so many bytes are judged.
abbrev pub script_within : ℕ → List ℕ → Items Op
script_within bound bytes = script_coming (nat_lt bound (length bytes)) (take bound bytes)

-- The ops are the script's, and a fault of a line or of the length is its fault. A failed read and want of memory may come with any.
abbrev pub GivesOps : {Z : Type 0} → Result (Vec Op Z) SourceError → Items Op → Type 0
GivesOps (Ok ops) s = s ≡ record { items = ops.items; fault = None }
GivesOps (Err (Text f)) s = s.fault ≡ Some (Text f)
GivesOps (Err TooMany) s = s.fault ≡ Some TooMany
GivesOps (Err Read) s = Unit {0}
GivesOps (Err OutOfMemory) s = Unit {0}
GivesOps (Err Failed) s = ⊥

-- The same of the script that known bytes are, of which so many are judged.
abbrev pub ReadsScript : {Z : Type 0} → ℕ → Option (List ℕ) → Result (Vec Op Z) SourceError → Type 0
ReadsScript bound known r = IfSome known (λ bytes. GivesOps r (script_within bound bytes))

-- At most so many bytes were read.
abbrev pub ReadsWithin : ℕ → Option (List ℕ) → Option (List ℕ) → Type 0
ReadsWithin most old new = (bytes : List ℕ) × (length bytes ≤ most) × Consumes old new bytes

-- The bytes within the bound, and whether more come.
abbrev pub IsRead : ℕ → Option (List ℕ) → List ℕ → Bool → Type 0
IsRead bound known text more = IfSome known (λ bytes. (text ≡ take bound bytes) × (more ≡ nat_lt bound (length bytes)))

-- What reading them gives.
abbrev pub ReadsText : ℕ → Option (List ℕ) → List ℕ → Result Bool SourceError → Type 0
ReadsText bound known text (Ok more) = IsRead bound known text more
ReadsText bound known text (Err Read) = Unit {0}
ReadsText bound known text (Err OutOfMemory) = Unit {0}
ReadsText bound known text (Err TooMany) = ⊥
ReadsText bound known text (Err (Text f)) = ⊥
ReadsText bound known text (Err Failed) = ⊥

-- The fault of a script of which more bytes come than are judged: that of a complete line, or of its length.
abbrev pub long_fault : Option TextError → SourceError
long_fault None = TooMany
long_fault (Some f) = Text f
