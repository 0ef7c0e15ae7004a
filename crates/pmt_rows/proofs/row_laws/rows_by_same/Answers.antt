use Rattle.pmt_rows.proofs.RowLemmas.{rows-same}
use Rattle.pmt_rows.proofs.row_laws.rows_by_same.Goals as goal

pub returns : goal.returns
returns c = rows-same
