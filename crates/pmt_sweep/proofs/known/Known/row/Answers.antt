use Rattle.std.proofs.Common.{arith}
use Rattle.std.proofs.lemmas.Grind.{elements}
use Rattle.pmt_laws.specs.Prelude.{last_flush, history, lines_of}
use Rattle.pmt_safety.specs.Safety.{last_line_store_at, safe_store_at}
use Rattle.pmt_sweep.proofs.known.Known.row.Goals as goal

pub returns : goal.returns
returns c = λ T n l it. c.row.ensures (lines_of (history T n)) (λ m. last_line_store_at T m n) (λ m. safe_store_at T m n) (λ m. last_flush m (history T n)) l it.at it.known.rows

pub row-requires : goal.row-requires
row-requires c = grind (arith, elements)
