use Rattle.std.proofs.Common.{ap}
use Rattle.pmt_laws.specs.Prelude.{count, front}
use Rattle.pmt_rows.specs.declared.rows.Row.{Row}
use Rattle.pmt_book.proofs.live.LiveLines.front.Goals as goal

pub returns : goal.returns
returns c = λ lines h l at is. ap (λ (y : Row). y.safe) (c.row.ensures lines (λ k. count k h) (λ k. front k h) (λ k. 0) l at is.rows)
