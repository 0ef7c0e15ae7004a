use Rattle.pmt_page.proofs.Prelude.{arith, elements}
use Rattle.pmt_page.proofs.labels.push_texts.Goals as goal

pub returns-in-empty : goal.returns-in-empty
returns-in-empty c = grind (arith, elements)
