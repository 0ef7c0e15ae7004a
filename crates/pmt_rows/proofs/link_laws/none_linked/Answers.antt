use Rattle.pmt_rows.proofs.LinkedLemmas.{none_linked}
use Rattle.pmt_rows.proofs.link_laws.none_linked.Goals as goal

pub returns : goal.returns
returns c = none_linked
