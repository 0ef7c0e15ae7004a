use Rattle.pmt_image.proofs.ReadBackLemmas.{read-back}
use Rattle.pmt_image.proofs.words.crashes_are_read_back.Goals as goal

pub returns : goal.returns
returns c = read-back
