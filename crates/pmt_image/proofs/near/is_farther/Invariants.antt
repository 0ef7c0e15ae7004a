use Rattle.pmt_image.proofs.Prelude.{◌≡◌, ◌+◌, ◌≤◌, drop, fronts_off}
use Rattle.pmt_image.proofs.near.is_farther.Given as goal

abbrev pub invariant-loop-index : goal.invariant-loop-index
invariant-loop-index l = record {
  sum : l.off + fronts_off (drop l.index l.lines) l.choice ≡ fronts_off l.lines l.choice;
  few : l.off ≤ l.most;
}
