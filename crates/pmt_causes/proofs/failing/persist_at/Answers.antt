use Rattle.std.proofs.Common.{arith}
use Rattle.pmt_causes.proofs.failing.persist_at.Goals as goal

pub persist_failure-requires-clause-writers : goal.persist_failure-requires-clause-writers
persist_failure-requires-clause-writers c = record {
  writers = c.in_ok-go_to.ensures.after;
  place = c.in_ok-go_to.ensures.place;
  low = omega (arith, c.in_ok-go_to.ensures.low, c.requires.writers.low);
  high = omega (arith, c.in_ok-go_to.ensures.high, c.requires.writers.high, c.len-len.ensures.is_range.within);
}
