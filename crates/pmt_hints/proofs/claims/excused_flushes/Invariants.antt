use Rattle.std.proofs.Common.{take}
use Rattle.pmt_hints.proofs.ClaimLemmas.{AreNoted}
use Rattle.pmt_hints.proofs.claims.excused_flushes.Given as goal

abbrev pub invariant-loop-number : goal.invariant-loop-number
invariant-loop-number l = AreNoted l.trace l.flushes (take l.number-index l.numbers) l.excused.items l.lines
