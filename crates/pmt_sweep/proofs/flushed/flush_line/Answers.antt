use Rattle.std.proofs.Common.{rules, arith}
use Rattle.std.proofs.lemmas.Grind.{elements, moves}
use Rattle.pmt_sweep.proofs.flushed.flush_line.Goals as goal

pub returns-then-has-clause-tells : goal.returns-then-has-clause-tells
returns-then-has-clause-tells c = grind (arith, moves)

pub returns-then-has-clause-store : goal.returns-then-has-clause-store
returns-then-has-clause-store c = grind arith

pub returns-then-has-clause-own : goal.returns-then-has-clause-own
returns-then-has-clause-own c = grind arith

pub returns-clause-store : goal.returns-clause-store
returns-clause-store c = grind (arith, elements)

pub returns-clause-own : goal.returns-clause-own
returns-clause-own c = search rules
