use Rattle.pmt_model.specs.Values.{first_version}
use Rattle.record_counter.proofs.main.Given as goal

abbrev pub ghosts-record-L-Roll : goal.ghosts-record-L-Roll
ghosts-record-L-Roll g a = record { tapes = 2; format = first_version }

abbrev pub ghosts-record-L-Ledger : goal.ghosts-record-L-Ledger
ghosts-record-L-Ledger g a = record { name = a.blank.name; parts = a.blank.parts }
