use Rattle.std.proofs.Common.{◌≡◌, ◌≤◌, ◌⊎◌}
use Rattle.pmt_explain.proofs.LastStoreLemmas.{IsNoted}
use Rattle.pmt_explain.proofs.last_stores.note_store.Given as goal

abbrev pub invariant-loop-byte : goal.invariant-loop-byte
invariant-loop-byte l = record {
  noted : IsNoted l.first l.number l.low l.byte l.initial.last l.last;
  upto : (l.byte ≡ l.low) ⊎ (l.byte ≤ l.high);
}
