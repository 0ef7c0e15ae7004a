use Rattle.pmt_rows.proofs.OpenLemmas.{waits-on}
use Rattle.pmt_rows.proofs.waiting_laws.waits_on.Goals as goal

pub returns : goal.returns
returns c = waits-on
