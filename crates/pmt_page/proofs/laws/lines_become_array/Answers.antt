use Rattle.pmt_page.proofs.ArrayLaws.{lines_become_array}
use Rattle.pmt_page.proofs.laws.lines_become_array.Goals as goal

pub returns : goal.returns
returns c = lines_become_array
