use Rattle.std.proofs.Common.{arith}
use Rattle.std.proofs.lemmas.Grind.{elements}
use Rattle.pmt_text.proofs.line_reader.LineReader.skip_line.Goals as goal

pub overflow_add-self : goal.overflow_add-self
overflow_add-self g c = grind (arith, elements)

pub overflow_add-len : goal.overflow_add-len
overflow_add-len g c = grind (arith, elements)
