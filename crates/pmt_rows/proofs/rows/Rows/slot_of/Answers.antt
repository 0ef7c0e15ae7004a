use Rattle.std.proofs.Common.{refl}
use Rattle.pmt_rows.proofs.RowLemmas.{known-there}
use Rattle.pmt_rows.proofs.rows.Rows.slot_of.Goals as goal

pub returns-in-Some-clause-known : goal.returns-in-Some-clause-known
returns-in-Some-clause-known c = λ lines last safe flush is. known-there lines last safe flush c.args.self.now is c.args.line c.in-Some.slot _ c.in-Some.ensures.slot refl refl
