use Rattle.pmt_rows.proofs.LinkedLemmas.{pending_is_below}
use Rattle.pmt_rows.proofs.link_laws.pending_is_below.Goals as goal

pub returns : goal.returns
returns c = pending_is_below
