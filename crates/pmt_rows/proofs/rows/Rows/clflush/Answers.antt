use Rattle.std.proofs.Common.{refl}
use Rattle.pmt_rows.proofs.RowLemmas.{known-clflush}
use Rattle.pmt_rows.proofs.rows.Rows.clflush.Goals as goal

pub returns : goal.returns
returns c = λ lines last safe flush l at is. known-clflush lines last safe flush c.args.self.now is l c.args.slot at c.args.number c.index_mut-row.result.now _ c.index_mut-row.ensures.value refl refl
