use Rattle.pmt_fates.proofs.Prelude.{◌≡◌, rows_below, counts_in}
use Rattle.pmt_fates.proofs.figures.rows_of.Given as goal

abbrev pub invariant-loop-thread : goal.invariant-loop-thread
invariant-loop-thread l = l.rows.items ≡ rows_below (counts_in l.threads) l.thread
