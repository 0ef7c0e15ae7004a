-- The fault lines of runs and of recording, without their LF, and their statuses.
use Rattle.std.specs.Prelude.{ℕ, List, ◌++◌, codes}
use Rattle.pmt_text.specs.Spelling.{numeral}
use Rattle.pmt_text.specs.Judging.{name_of}
use Rattle.pmt_text.specs.declared.kind.SourceError.{SourceError}
use Rattle.std.specs.Fmt.{decimal}
use Rattle.pmt_report.specs.declared.fault.RunError.{RunError}
use Rattle.pmt_report.specs.declared.fault.RunError.TheVariants.{BadWorkers, Text, TooMany, Read, PastEnd, OutOfMemory, Write}
use Rattle.pmt_report.specs.declared.record_fault.RecordFault.{RecordFault}
use Rattle.pmt_report.specs.declared.record_fault.RecordFault.TheVariants.{Line, TooLong, Full, Torn}
use Rattle.pmt_text.specs.declared.kind.SourceError.TheVariants as sources

abbrev pub fault_line : RunError → List ℕ
fault_line BadWorkers = codes "bad workers"
fault_line (Text fault) = codes "trace line " ++ numeral 10 fault.line ++ codes ": " ++ name_of fault.kind
fault_line TooMany = codes "trace too long"
fault_line Read = codes "file fault"
fault_line (PastEnd events) = codes "place past end " ++ numeral 10 events
fault_line OutOfMemory = codes "out of memory"
fault_line (Write written) = codes "file fault"

-- A wrong word, or a place past the end, ends with 2; a refused trace with 3; a device that fails with 4; want of memory with 5.
abbrev pub run_status : RunError → ℕ
run_status BadWorkers = 2
run_status (PastEnd events) = 2
run_status (Text fault) = 3
run_status TooMany = 3
run_status Read = 4
run_status (Write written) = 4
run_status OutOfMemory = 5

-- What a run tells where its source told this fault. A source that failed before is not run; it would tell a failed read.
abbrev pub run_fault : SourceError → RunError
run_fault (sources.Text fault) = Text fault
run_fault sources.TooMany = TooMany
run_fault sources.Read = Read
run_fault sources.OutOfMemory = OutOfMemory
run_fault sources.Failed = Read

-- ---- The fault lines of recording, without their LF, and their statuses

abbrev pub record_line : RecordFault → List ℕ
record_line (Line script error) = codes "script " ++ (decimal script ++ (codes " line " ++ (decimal error.line ++ (codes ": " ++ name_of error.kind))))
record_line (TooLong script) = codes "script " ++ (decimal script ++ codes " too long")
record_line Full = codes "trace full"
record_line (Torn recorder) = codes "torn recorder " ++ decimal recorder

-- A script that is refused ends with 3, and so does a trace that is full; a torn recorder with 6.
abbrev pub record_status : RecordFault → ℕ
record_status (Line script error) = 3
record_status (TooLong script) = 3
record_status Full = 3
record_status (Torn recorder) = 6
