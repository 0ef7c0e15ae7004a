use Rattle.pmt_page.proofs.Prelude.{rules, append_assoc, columns_with}
use Rattle.pmt_page.proofs.columns.columns_with.Goals as goal

pub returns : goal.returns
unfolding columns_with
returns c = search (rules, append_assoc)
