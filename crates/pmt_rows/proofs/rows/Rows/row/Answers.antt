use Rattle.pmt_rows.proofs.RowLemmas.{row-there}
use Rattle.pmt_rows.proofs.rows.Rows.row.Goals as goal

pub returns : goal.returns
returns c = λ lines last safe flush l at is. row-there lines last safe flush c.args.self.now is l c.args.slot at c.index.result.now c.index.ensures
