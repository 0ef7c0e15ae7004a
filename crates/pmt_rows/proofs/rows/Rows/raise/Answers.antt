use Rattle.std.proofs.Common.{refl, ap}
use Rattle.pmt_rows.specs.declared.rows.Row.{Row}
use Rattle.pmt_rows.proofs.RowLemmas.{known-raise, row-there}
use Rattle.pmt_rows.proofs.rows.Rows.raise.Goals as goal

pub returns-clause-raised : goal.returns-clause-raised
returns-clause-raised c = λ lines last safe flush l at is. known-raise lines last safe flush c.args.self.now is l c.args.slot at c.args.store _ c.index_mut-row.result.now _ c.max-row.ensures c.index_mut-row.ensures.value refl refl

pub returns-clause-was : goal.returns-clause-was
returns-clause-was c = λ lines last safe flush l at is. ap (λ (y : Row). y.safe) (row-there lines last safe flush c.args.self.now is l c.args.slot at c.index_mut-row.result.now c.index_mut-row.ensures.value)
