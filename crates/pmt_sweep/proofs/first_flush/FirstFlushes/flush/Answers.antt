use Rattle.std.proofs.Common.{arith}
use Rattle.std.proofs.lemmas.Grind.{common_steps, elements}
use Rattle.pmt_sweep.proofs.first_flush.FirstFlushes.flush.Goals as goal

pub index_mut-requires : goal.index_mut-requires
index_mut-requires c = grind (arith, elements)

pub returns-then-first-eq0-clause-tells : goal.returns-then-first-eq0-clause-tells
returns-then-first-eq0-clause-tells c = grind (arith, elements)

pub returns-then-first-eq0-clause-flushed : goal.returns-then-first-eq0-clause-flushed
returns-then-first-eq0-clause-flushed c = grind (arith, common_steps)

pub returns-then-first-thread-clause-tells : goal.returns-then-first-thread-clause-tells
returns-then-first-thread-clause-tells c = grind (arith, elements)

pub returns-then-first-thread-clause-flushed : goal.returns-then-first-thread-clause-flushed
returns-then-first-thread-clause-flushed c = grind (arith, elements)

pub returns-clause-tells : goal.returns-clause-tells
returns-clause-tells c = grind (arith, elements)

pub returns-clause-flushed : goal.returns-clause-flushed
returns-clause-flushed c = grind (arith, elements)
