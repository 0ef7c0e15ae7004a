use Rattle.std.proofs.Common.{◌≡◌, ℕ, take}
use Rattle.std.specs.List.{list_any}
use Rattle.pmt_hints.specs.Claiming.{claim_at, or_so}
use Rattle.pmt_entries.specs.Sites.{event_touches}
use Rattle.pmt_entries.proofs.scratch.note_events.Given as goal

abbrev pub invariant-loop-event : goal.invariant-loop-event
invariant-loop-event l = (m : ℕ) → claim_at l.lines m ≡ or_so (list_any (event_touches l.format m) (take l.event-index l.events)) (claim_at l.initial.lines m)
