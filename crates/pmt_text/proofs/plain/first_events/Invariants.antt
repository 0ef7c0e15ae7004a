use Rattle.std.proofs.Common.{◌-◌, ◌≤◌, ◌⊎◌, length}
use Rattle.pmt_text.specs.Spelled.{AreFirstEvents}
use Rattle.pmt_text.proofs.plain.first_events.Given as goal

abbrev pub invariant-line : goal.invariant-line
invariant-line l = AreFirstEvents l.text l.rest l.fn.trace l.trace × ((length l.trace.events ≤ length l.fn.trace.events) ⊎ (length l.trace.events ≤ l.most))

abbrev pub decreases-line : goal.decreases-line
decreases-line l = l.most - length l.trace.events
