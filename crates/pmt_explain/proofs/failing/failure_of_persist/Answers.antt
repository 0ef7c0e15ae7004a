use Rattle.std.proofs.Common.{arith}
use Rattle.std.proofs.lemmas.Grind.{elements}
use Rattle.pmt_explain.proofs.failing.failure_of_persist.Goals as goal

pub persist_failure-requires-clause-writers : goal.persist_failure-requires-clause-writers
persist_failure-requires-clause-writers c = record {
  writers = c.in_ok-go_to.ensures.after;
  place = c.in_ok-go_to.ensures.place;
  low = omega (arith, c.in_ok-go_to.ensures.low, c.between-writers.ensures.low, c.get-low.ensures.value, c.addr.ensures);
  high = omega (arith, c.in_ok-go_to.ensures.high, c.between-writers.ensures.high, c.get-low.ensures.value, c.addr.ensures, c.len.ensures.value);
}

pub returns-in_err-go_to : goal.returns-in_err-go_to
returns-in_err-go_to c = grind (arith, elements)
