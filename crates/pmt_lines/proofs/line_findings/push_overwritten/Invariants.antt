use Rattle.std.proofs.Common.{◌-◌, ◌^◌}
use Rattle.pmt_lines.proofs.RisingLemmas.{PushesUpTo}
use Rattle.pmt_lines.proofs.line_findings.push_overwritten.Given as goal

abbrev pub invariant-loop-next : goal.invariant-loop-next
invariant-loop-next l = PushesUpTo l.initial.found.items l.found.items l.earlier l.flush l.later l.low

abbrev pub decreases-loop-next : goal.decreases-loop-next
decreases-loop-next l = 2 ^ 32 - l.low
