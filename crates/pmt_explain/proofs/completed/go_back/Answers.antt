use Rattle.std.proofs.Common.{arith}
use Rattle.std.proofs.lemmas.Grind.{elements}
use Rattle.pmt_explain.proofs.completed.go_back.Goals as goal

pub returns-in_ok-note_flush-in-Clflush-clause-flushes : goal.returns-in_ok-note_flush-in-Clflush-clause-flushes
returns-in_ok-note_flush-in-Clflush-clause-flushes c = grind (arith, elements)
