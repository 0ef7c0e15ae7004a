use Rattle.std.proofs.Common.{take}
use Rattle.pmt_failures.specs.Showing.{AreShown}
use Rattle.pmt_failures.proofs.failures.shown_failures.Given as goal

abbrev pub invariant-loop-number : goal.invariant-loop-number
invariant-loop-number l = AreShown l.safe.trace.now (take l.number-index l.failing) l.shown.items
