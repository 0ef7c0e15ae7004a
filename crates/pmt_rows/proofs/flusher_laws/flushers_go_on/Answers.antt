use Rattle.pmt_rows.proofs.FlushedLemmas.{flushers_go_on}
use Rattle.pmt_rows.proofs.flusher_laws.flushers_go_on.Goals as goal

pub returns : goal.returns
returns c = flushers_go_on
