use Rattle.pmt_laws.proofs.WorkedImageLemmas.{second_byte_again_says}
use Rattle.pmt_laws.proofs.worked.second_byte_again.Goals as goal

pub returns : goal.returns
returns c = second_byte_again_says
