use Rattle.pmt_page.proofs.Prelude.{arith, elements}
use Rattle.pmt_page.proofs.template.own_template.Goals as goal

pub returns : goal.returns
returns c = grind (arith, elements)
