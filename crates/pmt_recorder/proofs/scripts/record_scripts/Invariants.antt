use Rattle.std.proofs.Common.{length}
use Rattle.pmt_model.specs.Values.{first_version}
use Rattle.pmt_recorder.proofs.scripts.record_scripts.Given as goal

abbrev pub ghosts-record_over-L-Roll : goal.ghosts-record_over-L-Roll
ghosts-record_over-L-Roll g a = record { tapes = length a.scripts.now; format = first_version }

abbrev pub ghosts-record_over-L-Ledger : goal.ghosts-record_over-L-Ledger
ghosts-record_over-L-Ledger g a = record { name = a.blank.name; parts = a.blank.parts }
