use Rattle.std.proofs.Common.{◌<◌, ℕ, suc}
use Rattle.pmt_tables.specs.Slots.{IsSlotOf, IsReached}
use Rattle.pmt_tables.proofs.line_slots.indexed.Given as goal

abbrev pub invariant-loop-slot : goal.invariant-loop-slot
invariant-loop-slot l = (p line : ℕ) → p < l.slot → IsSlotOf line p l.lines → IsReached l.cells.items line (suc p)
