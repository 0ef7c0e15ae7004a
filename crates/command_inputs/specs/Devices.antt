-- What the devices of commands hold, what is out of an answer, and the statuses of faults.
use Rattle.std.specs.Prelude.{ℕ, List, ◌∷◌, Option, option_map, take, Result, Ok, Err, ◌≡◌, ◌⊎◌}
use Rattle.std.specs.Io.KnownBytes.{Appends}
use Rattle.pmt_report.specs.Faults.{run_status, record_status}
use Rattle.command_inputs.specs.declared.recalling.Recalling.{Recalling}
use Rattle.command_inputs.specs.declared.writing.Sent.{Sent}
use Rattle.command_inputs.specs.declared.writing.Sent.TheVariants.{Whole, ReaderGone}
use Rattle.command_inputs.specs.declared.fault.Fault.{Fault}
use Rattle.command_inputs.specs.declared.fault.Fault.TheVariants.{Usage, NoCommand, Absent, Refused, System, Run, Record, File, OutOfMemory}

-- The reader or writer inside.
abbrev pub recalled_device : {D : Type 0} → Recalling D → D
recalled_device r = r.device

-- What a lent writer holds, where that is known, behind the name that proofs give the loan. Whoever writes behind what is held leaves that name,
-- and with it the same writer.
abbrev pub named_contents : ℕ → Option (List ℕ) → Option (List ℕ)
named_contents name known = option_map (λ bytes. name ∷ bytes) known

-- The text is out whole, or, where a write or the flush failed, its first bytes alone.
abbrev pub WritesFirst : {A E : Type 0} → Option (List ℕ) → Option (List ℕ) → List ℕ → Result A E → Type 0
WritesFirst old new text (Ok x) = Appends old new text
WritesFirst old new text (Err e) = (written : ℕ) × Appends old new (take written text)

-- The text is out whole, unless its reader has gone.
abbrev pub Sends : Option (List ℕ) → Option (List ℕ) → List ℕ → Sent → Type 0
Sends old new text Whole = Appends old new text
Sends old new text ReaderGone = Unit {0}

-- Words that ask for what there is not end with 2, a refused input with 3, what the system refuses with 4, want of memory with 5.
abbrev pub fault_status : Fault → ℕ
fault_status (Usage text) = 2
fault_status (NoCommand text) = 2
fault_status (Absent text) = 2
fault_status (Refused text) = 3
fault_status (System text) = 4
fault_status (Run error) = run_status error
fault_status (Record fault) = record_status fault
fault_status File = 4
fault_status OutOfMemory = 5

-- The status is this one, or that of want of memory, where there was none for what is told.
abbrev pub IsToldAs : ℕ → ℕ → Type 0
IsToldAs status told = (told ≡ status) ⊎ (told ≡ 5)
