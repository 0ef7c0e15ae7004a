use Rattle.pmt_page.proofs.Prelude.{arith, elements}
use Rattle.pmt_page.proofs.about.about_text.Goals as goal

pub returns-in_err-push_digest : goal.returns-in_err-push_digest
returns-in_err-push_digest c = grind (arith, elements)
