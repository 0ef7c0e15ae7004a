use Rattle.std.proofs.Common.{arith}
use Rattle.std.proofs.lemmas.Grind.{elements}
use Rattle.pmt_explain.proofs.failing.failure_by.Goals as goal

pub failure_of_persist-requires-clause-number : goal.failure_of_persist-requires-clause-number
failure_of_persist-requires-clause-number c = grind (arith, elements)

pub failure_of_ordered-requires-clause-number : goal.failure_of_ordered-requires-clause-number
failure_of_ordered-requires-clause-number c = grind (arith, elements)

pub failure_of_ordered-requires-clause-safe : goal.failure_of_ordered-requires-clause-safe
failure_of_ordered-requires-clause-safe c = grind (arith, elements)
