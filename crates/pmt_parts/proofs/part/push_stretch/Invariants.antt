use Rattle.pmt_parts.proofs.Prelude.{◌≡◌, ◌-◌, ◌≤◌, ◌⊎◌, ◌++◌, stretch}
use Rattle.pmt_parts.proofs.part.push_stretch.Given as goal

abbrev pub invariant-loop-number : goal.invariant-loop-number
invariant-loop-number l = record {
  items : l.numbers.items ≡ l.fn.numbers.items ++ stretch l.place (l.number - l.place);
  from : l.place ≤ l.number;
  by : (l.number ≡ l.place) ⊎ (l.number ≤ l.end);
}
