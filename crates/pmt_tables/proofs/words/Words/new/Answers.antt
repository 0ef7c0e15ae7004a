use Rattle.std.proofs.Common.{arith}
use Rattle.pmt_tables.proofs.words.Words.new.Goals as goal

pub invariant_of-result : goal.invariant_of-result
invariant_of-result c = grind arith
