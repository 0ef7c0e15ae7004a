-- The parts that were written are counted, and what was read is a trace.
use Rattle.std.specs.Prelude.{◌≡◌, ℕ, ◌-◌, ◌^◌, List, [], ◌∷◌, length, min, Option, IfSome}
use Rattle.pmt_model.specs.Traces.{Recording}
use Rattle.pmt_text.specs.Spelling.{spelling}
use Rattle.pmt_part_laws.specs.Parts.{IsWellFormed}
use Rattle.pmt_parts.specs.declared.part.Part.{Part}
use Rattle.command_parts.specs.declared.files.Written.{Written}

-- The last event of the last of these parts, or this one where there is none.
abbrev pub last_end : ℕ → List Part → ℕ
last_end end [] = end
last_end end (p ∷ parts) = last_end p.end parts

-- So many parts were written, up to the greatest number that is counted, and they answer for the events up to the end of the last of them.
abbrev pub IsCounted : List Part → Written → Type 0
IsCounted parts written = (written.parts ≡ min (length parts) (2 ^ 64 - 1)) × (written.events ≡ last_end 0 parts)

-- The bytes, where they are known, are the text of a trace of any length.
abbrev pub IsLongText : Option (List ℕ) → Type 0
IsLongText bytes = (T : Recording) × IsWellFormed T × IfSome bytes (λ text. text ≡ spelling T)
