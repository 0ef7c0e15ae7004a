use Rattle.pmt_page.proofs.Prelude.{◌≡◌, ◌+◌, ◌≤◌, ◌++◌, length, drop, dropped_letters}
use Rattle.pmt_page.proofs.dropping.push_dropped.Given as goal

abbrev pub invariant-loop-index : goal.invariant-loop-index
invariant-loop-index l = (l.index ≤ length l.events) × (l.text.items ++ dropped_letters l.dropped (l.index + 1) (drop l.index l.events) ≡ l.initial.text.items ++ dropped_letters l.dropped 1 l.events)
