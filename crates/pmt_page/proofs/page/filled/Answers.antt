use Rattle.pmt_page.proofs.Prelude.{rules, append_assoc, filled}
use Rattle.pmt_page.proofs.page.filled.Goals as goal

pub returns : goal.returns
unfolding filled
returns c = search (rules, append_assoc)
