use Rattle.pmt_rows.proofs.LinkedLemmas.{each_linked}
use Rattle.pmt_rows.proofs.link_laws.each_linked.Goals as goal

pub returns : goal.returns
returns c = each_linked
