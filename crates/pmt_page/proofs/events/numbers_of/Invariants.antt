use Rattle.pmt_page.proofs.Prelude.{◌≡◌, ◌++◌, drop, flat_map, numbers_of}
use Rattle.pmt_page.proofs.events.numbers_of.Given as goal

abbrev pub invariant-loop-event : goal.invariant-loop-event
invariant-loop-event l = l.found.items ++ flat_map (numbers_of l.has_ranges l.column) (drop l.event-index l.events) ≡ flat_map (numbers_of l.has_ranges l.column) l.events
