use Rattle.std.proofs.Common.{◌≡◌, ap, ◌∙◌, arith}
use Rattle.std.proofs.lemmas.Grind.{elements}
use Rattle.pmt_laws.specs.Prelude.{last_flush, history, lines_of}
use Rattle.pmt_rows.specs.declared.rows.Row.{Row}
use Rattle.pmt_rows.specs.Known.{row_after}
use Rattle.pmt_safety.specs.Safety.{last_line_store_at, safe_store_at}
use Rattle.pmt_sweep.proofs.ReadingLemmas.{newest-of_whole}
use Rattle.pmt_sweep.proofs.known.Known.newest.Goals as goal

pub returns-then-high-low : goal.returns-then-high-low
returns-then-high-low c = λ T n l it.
    let row : c.row.result ≡ row_after (λ m. safe_store_at T m n) (history T n) l = c.row.ensures (lines_of (history T n)) (λ m. last_line_store_at T m n) (λ m. safe_store_at T m n) (λ m. last_flush m (history T n)) l it.at it.known.rows in
    newest-of_whole T n l c.args.slot c.args.self.now it c.args.low c.args.high c.row.result.last_store c.requires.some c.requires.within (c.if-high-low.true ∙ c.line_size.ensures.value) (ap (λ (y : Row). y.last_store) row)

pub row-requires : goal.row-requires
row-requires c = grind (arith, elements)

pub overflow_cast-line_size : goal.overflow_cast-line_size
overflow_cast-line_size c = grind arith
