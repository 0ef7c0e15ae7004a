use Rattle.std.proofs.Common.{arith}
use Rattle.std.proofs.lemmas.Grind.{elements}
use Rattle.pmt_explain.proofs.failing.failure_of_ordered.Goals as goal

pub ordered_failure-requires-clause-first : goal.ordered_failure-requires-clause-first
ordered_failure-requires-clause-first c = record {
  writers = c.in_ok-go_to.ensures.after;
  place = c.in_ok-go_to.ensures.place;
  low = omega (arith, c.in_ok-go_to.ensures.low, c.between-writers.ensures.low, c.get-low.ensures.value, c.addr.ensures, c.min.ensures);
  high = omega (arith, c.in_ok-go_to.ensures.high, c.between-writers.ensures.high, c.get-low.ensures.value, c.addr.ensures, c.len.ensures.value, c.max.ensures);
}

pub ordered_failure-requires-clause-second : goal.ordered_failure-requires-clause-second
ordered_failure-requires-clause-second c = record {
  writers = c.in_ok-go_to.ensures.after;
  place = c.in_ok-go_to.ensures.place;
  low = omega (arith, c.in_ok-go_to.ensures.low, c.between-writers.ensures.low, c.get-other.ensures.value, c.addr-2.ensures, c.min.ensures);
  high = omega (arith, c.in_ok-go_to.ensures.high, c.between-writers.ensures.high, c.get-other.ensures.value, c.addr-2.ensures, c.len-2.ensures.value, c.max.ensures);
}

pub returns-in_err-go_to : goal.returns-in_err-go_to
returns-in_err-go_to c = grind (arith, elements)
