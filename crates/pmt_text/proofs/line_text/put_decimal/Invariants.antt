-- The digits that are left to put and those that were put are the numeral, and there is room for those that are left.
use Rattle.std.proofs.Common.{◌≡◌, ◌+◌, ◌-◌, ◌^◌, ◌<◌, ◌≤◌, ◌++◌, length, drop}
use Rattle.pmt_text.specs.Spelling.{numeral}
use Rattle.pmt_text.proofs.line_text.put_decimal.Given as goal

abbrev pub invariant-loop-rest : goal.invariant-loop-rest
invariant-loop-rest l =
    (length l.line ≡ 128) × (l.start ≤ l.at) × (l.at + 1 ≤ l.start + 20) × (l.rest < 10 ^ (l.start + 20 - l.at))
    × (numeral 10 l.number ++ drop l.at l.fn.line ≡ numeral 10 l.rest ++ drop l.start l.line)

abbrev pub decreases-loop-rest : goal.decreases-loop-rest
decreases-loop-rest l = l.rest
