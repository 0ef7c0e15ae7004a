use Rattle.pmt_page.proofs.Prelude.{arith, elements}
use Rattle.pmt_page.proofs.about.push_digest.Goals as goal

pub returns : goal.returns
returns c = grind (arith, elements)
