use Rattle.std.proofs.Common.{arith, rules}
use Rattle.pmt_sweep.proofs.line_words.bytes_of.Goals as goal

pub returns-clause-writes : goal.returns-clause-writes
returns-clause-writes c = search rules

pub overflow_mul-result : goal.overflow_mul-result
overflow_mul-result c = grind arith
