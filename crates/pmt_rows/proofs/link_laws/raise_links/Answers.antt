use Rattle.pmt_rows.proofs.LinkedLemmas.{raise_links}
use Rattle.pmt_rows.proofs.link_laws.raise_links.Goals as goal

pub returns : goal.returns
returns c = raise_links
