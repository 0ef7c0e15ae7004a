use Rattle.std.proofs.Common.{arith}
use Rattle.std.proofs.lemmas.Grind.{elements}
use Rattle.pmt_text.proofs.line_reader.LineReader.take_plain.Goals as goal

pub overflow_sub-count : goal.overflow_sub-count
overflow_sub-count g c = grind (arith, elements)
