use Rattle.library_tests.proofs.recorder.in_session.Given as goal

abbrev pub ghosts-start-L-Roll : goal.ghosts-start-L-Roll
ghosts-start-L-Roll g a = record { tapes = 1; format = a.format }

abbrev pub ghosts-start-L-Ledger : goal.ghosts-start-L-Ledger
ghosts-start-L-Ledger g a = record { name = a.blank.name; parts = a.blank.parts }
