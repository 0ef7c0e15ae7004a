use Rattle.pmt_page.proofs.Prelude.{arith, elements}
use Rattle.pmt_page.proofs.sources.push_later_file.Goals as goal

pub returns : goal.returns
returns c = grind (arith, elements)
