use Rattle.std.proofs.Common.{refl}
use Rattle.pmt_tables.specs.Slots.{cell_at}
use Rattle.pmt_tables.proofs.line_slots.cell_of.Goals as goal

pub returns-clause-cell : goal.returns-clause-cell
unfolding cell_at
returns-clause-cell c = refl
