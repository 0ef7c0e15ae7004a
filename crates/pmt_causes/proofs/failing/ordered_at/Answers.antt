use Rattle.std.proofs.Common.{arith}
use Rattle.std.proofs.lemmas.Grind.{elements}
use Rattle.pmt_causes.proofs.failing.ordered_at.Goals as goal

pub ordered_failure-requires-clause-first : goal.ordered_failure-requires-clause-first
ordered_failure-requires-clause-first c = record {
  writers = c.in_ok-go_to.ensures.after;
  place = c.in_ok-go_to.ensures.place;
  low = omega (arith, c.in_ok-go_to.ensures.low, c.requires.writers.low);
  high = omega (arith, c.in_ok-go_to.ensures.high, c.requires.writers.high, c.len.ensures.is_range.within);
}

pub ordered_failure-requires-clause-second : goal.ordered_failure-requires-clause-second
ordered_failure-requires-clause-second c = record {
  writers = c.in_ok-go_to.ensures.after;
  place = c.in_ok-go_to.ensures.place;
  low = omega (arith, c.in_ok-go_to.ensures.low, c.requires.writers.low);
  high = omega (arith, c.in_ok-go_to.ensures.high, c.requires.writers.high, c.len-2.ensures.is_range.within);
}

pub go_to-requires-clause-within : goal.go_to-requires-clause-within
go_to-requires-clause-within c = grind (arith, elements)

pub go_to-requires-clause-before : goal.go_to-requires-clause-before
go_to-requires-clause-before c = grind (arith, elements)

pub returns-in_err-go_to-clause-failure : goal.returns-in_err-go_to-clause-failure
returns-in_err-go_to-clause-failure c = grind (arith, elements)

pub returns-in_err-go_to-clause-writers : goal.returns-in_err-go_to-clause-writers
returns-in_err-go_to-clause-writers c = grind (arith, elements)

pub ordered_failure-requires-clause-safe : goal.ordered_failure-requires-clause-safe
ordered_failure-requires-clause-safe c = grind (arith, elements)

pub returns-clause-failure : goal.returns-clause-failure
returns-clause-failure c = grind (arith, elements)

pub returns-clause-writers : goal.returns-clause-writers
returns-clause-writers c = grind (arith, elements)
