use Rattle.std.proofs.Common.{◌≡◌, ◌<◌, ◌⊎◌, take}
use Rattle.pmt_lines.specs.Jobs.{IsNoneAbove, IsNextAbove}
use Rattle.pmt_lines.proofs.line_findings.next_above.Given as goal

-- none of the numbers so far is above low, or this is the least that is
abbrev pub invariant-loop-number : goal.invariant-loop-number
invariant-loop-number l =
    ((l.least ≡ 4294967296) × IsNoneAbove l.low (take l.number-index l.numbers)) ⊎ ((l.least < 4294967296) × IsNextAbove l.low (take l.number-index l.numbers) l.least)
