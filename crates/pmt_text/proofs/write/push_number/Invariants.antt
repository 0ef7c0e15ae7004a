-- The digits that are left to write and those that are written are the numeral, and there is room for those that are left.
use Rattle.std.proofs.Common.{◌≡◌, ◌<◌, ◌≤◌, ◌^◌, ◌++◌, length, drop}
use Rattle.pmt_text.specs.Spelling.{numeral}
use Rattle.pmt_text.proofs.write.push_number.Given as goal

abbrev pub invariant-loop-rest : goal.invariant-loop-rest
invariant-loop-rest l = (length l.digits ≡ 20) × (1 ≤ l.at) × (l.at ≤ 20) × (l.rest < 10 ^ l.at) × (numeral l.base l.number ≡ numeral l.base l.rest ++ drop l.at l.digits)

abbrev pub decreases-loop-rest : goal.decreases-loop-rest
decreases-loop-rest l = l.rest
