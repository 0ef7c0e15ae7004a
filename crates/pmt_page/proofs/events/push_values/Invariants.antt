use Rattle.pmt_page.proofs.Prelude.{◌≡◌, ◌++◌, drop, flat_map, Event, hex_bytes, stored_bytes}
use Rattle.pmt_page.proofs.events.push_values.Given as goal

abbrev pub invariant-loop-event : goal.invariant-loop-event
invariant-loop-event l = l.text.items ++ flat_map (λ (e : Event). hex_bytes (stored_bytes e.op)) (drop l.event-index l.events) ≡ l.initial.text.items ++ flat_map (λ (e : Event). hex_bytes (stored_bytes e.op)) l.events
