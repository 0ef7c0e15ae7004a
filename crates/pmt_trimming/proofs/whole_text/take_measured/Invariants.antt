use Rattle.std.proofs.Common.{◌≡◌, ◌+◌, ◌≤◌, ◌++◌, length, map, take, vec_capacity, vec_len}
use Rattle.pmt_laws.specs.Prelude.{with_events, Recording}
use Rattle.pmt_text.specs.Spelling.{event_text}
use Rattle.pmt_trimming.specs.Passing.{IsPassOf}
use Rattle.pmt_trimming.proofs.whole_text.take_measured.Given as goal

abbrev pub invariant-loop-event : goal.invariant-loop-event
invariant-loop-event l = record {
  passing : (T : Recording) → IsPassOf T l.fn.pass → IsPassOf (with_events T (take l.event-index l.events)) l.pass;
  settled : l.pass.settled ≡ l.fn.pass.settled;
  lengths : l.lengths.items ≡ l.fn.lengths.items ++ map (λ e. length (event_text e)) (take l.event-index l.events);
  len : vec_len l.lengths ≡ vec_len l.fn.lengths + l.event-index;
  room : vec_len l.fn.lengths + length l.events ≤ vec_capacity l.lengths;
}
