use Rattle.std.proofs.Common.{arith}
use Rattle.std.proofs.lemmas.Grind.{elements}
use Rattle.pmt_rows.proofs.ThreadLemmas.{table-none}
use Rattle.pmt_rows.proofs.flushers.table_of.Goals as goal

pub loop-thread-init : goal.loop-thread-init
loop-thread-init c = table-none c.args.threads.now

pub returns-clause-each : goal.returns-clause-each
returns-clause-each c = grind (arith, elements)
