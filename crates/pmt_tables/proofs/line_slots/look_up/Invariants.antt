use Rattle.pmt_tables.proofs.CellLemmas.{ArePast}
use Rattle.pmt_tables.proofs.line_slots.look_up.Given as goal

abbrev pub invariant-loop-look : goal.invariant-loop-look
invariant-loop-look l = ArePast l.lines l.cells l.line l.look
