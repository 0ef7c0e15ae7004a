use Rattle.std.proofs.Common.{arith}
use Rattle.std.proofs.lemmas.Grind.{elements}
use Rattle.pmt_book.proofs.book.Book.add_fence.Goals as goal

pub invariant_of-self : goal.invariant_of-self
invariant_of-self c = grind arith

pub returns-in_err-push-clause-ok : goal.returns-in_err-push-clause-ok
returns-in_err-push-clause-ok c = grind arith

pub returns-in_err-push-clause-err : goal.returns-in_err-push-clause-err
returns-in_err-push-clause-err c = grind arith

pub returns-clause-ok : goal.returns-clause-ok
returns-clause-ok c = grind arith

pub returns-clause-err : goal.returns-clause-err
returns-clause-err c = grind (arith, elements)
