use Rattle.std.proofs.Common.{◌≡◌, suc, drop, ◌↔◌}
use Rattle.pmt_model.specs.Selections.{part_from}
use Rattle.pmt_recorder.specs.Strips.{strip, IsPart}
use Rattle.pmt_recorder.proofs.tape.Tape.is_part.Given as goal

abbrev pub invariant-loop-event : goal.invariant-loop-event
invariant-loop-event g l =
    (l.number ≡ l.event-index)
    × ((part_from (suc l.event-index) l.self-inside.thread (drop l.event-index l.events) ≡ l.rest) ↔ IsPart (strip l.self-inside.thread l.self-inside.entries.items) l.events)
