use Rattle.std.proofs.Common.{arith, subst}
use Rattle.std.proofs.lemmas.Grind.{elements}
use Rattle.pmt_causes.specs.Groups.{AreGrouped}
use Rattle.pmt_causes.proofs.ExactFailures.{failure-exact}
use Rattle.pmt_causes.proofs.failing.groups_of.Goals as goal

pub groups-requires : goal.groups-requires
groups-requires c = record { exact = failure-exact }

pub returns : goal.returns
returns c = (c.in_ok-failures.failures.items, c.in_ok-failures.ensures, subst (λ xs. AreGrouped xs c.in_ok-groups.groups.items) c.as_slice.ensures.value c.in_ok-groups.ensures)

pub returns-in_err-failures : goal.returns-in_err-failures
returns-in_err-failures c = grind (arith, elements)

pub returns-in_err-groups : goal.returns-in_err-groups
returns-in_err-groups c = grind (arith, elements)
