use Rattle.std.proofs.Common.{take}
use Rattle.pmt_hints.specs.Claiming.{AreAsked}
use Rattle.pmt_hints.proofs.claims.flushed_lines.Given as goal

abbrev pub invariant-loop-number : goal.invariant-loop-number
invariant-loop-number l = AreAsked l.trace (take l.number-index l.flushes) l.claims
