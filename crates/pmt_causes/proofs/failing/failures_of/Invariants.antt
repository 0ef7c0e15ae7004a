use Rattle.std.proofs.Common.{take}
use Rattle.pmt_causes.specs.Groups.{AreKeyed}
use Rattle.pmt_causes.specs.Writers.{AreAllWriters}
use Rattle.pmt_causes.proofs.failing.failures_of.Given as goal

abbrev pub invariant-loop-number : goal.invariant-loop-number
invariant-loop-number l = record {
  writers : AreAllWriters l.trace l.writers;
  keyed : AreKeyed l.trace l.labels (take l.number-index l.numbers) l.items.items;
}
