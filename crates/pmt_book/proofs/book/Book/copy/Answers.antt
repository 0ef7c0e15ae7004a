use Rattle.std.proofs.Common.{arith}
use Rattle.pmt_book.proofs.book.Book.copy.Goals as goal

pub copied_trace-requires : goal.copied_trace-requires
copied_trace-requires c = grind arith

pub returns-in_err-copied_trace : goal.returns-in_err-copied_trace
returns-in_err-copied_trace c = grind arith

pub returns-in_err-copy : goal.returns-in_err-copy
returns-in_err-copy c = grind arith

pub invariant_of-result : goal.invariant_of-result
invariant_of-result c = grind arith
