use Rattle.pmt_rows.proofs.KeepingLemmas.{kept_by_raise}
use Rattle.pmt_rows.proofs.waiting_laws.kept_by_raise.Goals as goal

pub returns : goal.returns
returns c = kept_by_raise
