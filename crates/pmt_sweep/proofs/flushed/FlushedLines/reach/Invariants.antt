use Rattle.std.proofs.Common.{◌-◌, ◌+◌, vec_len}
use Rattle.pmt_sweep.proofs.FlushedLemmas.{IsReaching}
use Rattle.pmt_sweep.proofs.flushed.FlushedLines.reach.Given as goal

abbrev pub invariant-loop-self : goal.invariant-loop-self
invariant-loop-self l = IsReaching l.slot l.initial.self.lines.items l.self.lines.items

abbrev pub decreases-loop-self : goal.decreases-loop-self
decreases-loop-self l = l.slot + 1 - vec_len l.self.lines
