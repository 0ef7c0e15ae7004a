use Rattle.std.proofs.Common.{take}
use Rattle.pmt_rows.proofs.ThreadLemmas.{IsTableOf}
use Rattle.pmt_rows.proofs.flushers.table_of.Given as goal

abbrev pub invariant-loop-thread : goal.invariant-loop-thread
invariant-loop-thread l = IsTableOf l.table (take l.thread-index l.threads)
