use Rattle.std.proofs.Common.{◌≡◌, ◌≤◌, ◌⊎◌}
use Rattle.pmt_image.proofs.LayLemmas.{IsLaid}
use Rattle.pmt_image.proofs.laying.lay_store.Given as goal

abbrev pub invariant-loop-address : goal.invariant-loop-address
invariant-loop-address l = record {
  laid : IsLaid l.at l.fn.store l.low l.address l.initial.bytes l.bytes;
  upto : (l.address ≡ l.low) ⊎ (l.address ≤ l.high);
}
