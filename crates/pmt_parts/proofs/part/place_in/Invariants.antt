use Rattle.pmt_parts.proofs.Prelude.{◌≡◌, ◌≤◌, take, matching_place}
use Rattle.pmt_parts.proofs.part.place_in.Given as goal

abbrev pub invariant-loop-number : goal.invariant-loop-number
invariant-loop-number l = (l.count ≡ matching_place (take l.number-index l.numbers) l.place) × (l.count ≤ l.number-index)
