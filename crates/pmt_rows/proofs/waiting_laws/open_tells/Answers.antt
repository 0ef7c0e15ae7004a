use Rattle.pmt_rows.proofs.WaitingLemmas.{open-tells}
use Rattle.pmt_rows.proofs.waiting_laws.open_tells.Goals as goal

pub returns : goal.returns
returns c = open-tells
