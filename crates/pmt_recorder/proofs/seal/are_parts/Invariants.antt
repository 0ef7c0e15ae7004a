use Rattle.std.proofs.Common.{◌≡◌, ℕ, suc, ◌<◌, ◌≤◌, length, drop, get_or}
use Rattle.pmt_model.specs.Selections.{part, part_from}
use Rattle.pmt_recorder.specs.Strips.{entries_of}
use Rattle.pmt_recorder.proofs.seal.are_parts.Given as goal

abbrev pub invariant-loop-event : goal.invariant-loop-event
invariant-loop-event g l = record {
  size : length l.next ≡ 256;
  count : l.number ≡ l.event-index;
  few : (t : ℕ) → get_or l.next t 0 ≤ l.event-index;
  rest : (t : ℕ) → t < length l.tapes → part_from (suc l.event-index) t (drop l.event-index l.events) ≡ drop (get_or l.next t 0) (entries_of t l.tapes)
      → part t l.events ≡ entries_of t l.tapes;
}
