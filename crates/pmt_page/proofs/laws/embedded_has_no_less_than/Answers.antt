use Rattle.pmt_page.proofs.EscapeLemmas.{embedded-clean}
use Rattle.pmt_page.proofs.laws.embedded_has_no_less_than.Goals as goal

pub returns : goal.returns
returns c = λ json. embedded-clean json
