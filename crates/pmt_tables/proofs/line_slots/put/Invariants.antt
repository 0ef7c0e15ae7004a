use Rattle.std.proofs.Common.{◌≡◌, ◌≢◌, ◌<◌, ℕ}
use Rattle.pmt_tables.proofs.CellLemmas.{seen_at}
use Rattle.pmt_tables.proofs.line_slots.put.Given as goal

abbrev pub invariant-loop-look : goal.invariant-loop-look
invariant-loop-look l = (l.cells.items ≡ l.initial.cells.items) × ((k : ℕ) → k < l.look → seen_at l.cells.items l.line k ≢ 0)
