use Rattle.pmt_page.proofs.Prelude.{arith, elements}
use Rattle.pmt_page.proofs.page.push_told_data.Goals as goal

pub returns-in_err-extend_from_slice-2 : goal.returns-in_err-extend_from_slice-2
returns-in_err-extend_from_slice-2 c = grind (arith, elements)

pub returns-in_err-push_embedded-2 : goal.returns-in_err-push_embedded-2
returns-in_err-push_embedded-2 c = grind (arith, elements)
