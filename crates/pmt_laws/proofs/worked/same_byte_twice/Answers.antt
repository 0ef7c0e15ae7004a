use Rattle.pmt_laws.proofs.WorkedLemmas.{same_byte_twice_says}
use Rattle.pmt_laws.proofs.worked.same_byte_twice.Goals as goal

pub returns : goal.returns
returns c = same_byte_twice_says
