use Rattle.std.proofs.Common.{take}
use Rattle.pmt_hints.specs.Contrasts.{AreClosed}
use Rattle.pmt_hints.proofs.open_at.closed_places.Given as goal

abbrev pub invariant-loop-number : goal.invariant-loop-number
invariant-loop-number l = AreClosed l.trace l.labels (take l.number-index l.numbers) l.closed
