use Rattle.std.proofs.Common.{arith}
use Rattle.std.proofs.lemmas.Grind.{elements, moves}
use Rattle.pmt_tables.proofs.words.split.Goals as goal

pub returns-then-old-ge-FIRST_TABLE-clause-here : goal.returns-then-old-ge-FIRST_TABLE-clause-here
returns-then-old-ge-FIRST_TABLE-clause-here c = grind (arith, elements)

pub table_of-requires : goal.table_of-requires
table_of-requires c = grind (arith, elements)

pub returns-in_err-push-clause-are : goal.returns-in_err-push-clause-are
returns-in_err-push-clause-are c = grind arith

pub returns-clause-are : goal.returns-clause-are
returns-clause-are c = grind (arith, moves)

pub returns-clause-here : goal.returns-clause-here
returns-clause-here c = grind (arith, moves)
