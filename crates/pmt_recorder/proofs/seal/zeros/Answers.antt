use Rattle.pmt_recorder.proofs.PlaceLemmas.{get_or-zeros}
use Rattle.pmt_recorder.proofs.seal.zeros.Goals as goal

pub returns : goal.returns
returns c = λ t. get_or-zeros 256 t
