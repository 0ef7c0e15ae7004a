use Rattle.pmt_slices.proofs.Prelude.{◌≡◌, ◌≤◌, ◌⊎◌, TakesBytes}
use Rattle.pmt_slices.proofs.unwritten.take_bytes.Given as goal

abbrev pub invariant-loop-place : goal.invariant-loop-place
invariant-loop-place l = record {
  taken : TakesBytes l.from l.place l.found l.initial.bytes l.bytes;
  within : (l.place ≡ l.from) ⊎ (l.place ≤ l.to);
}
