use Rattle.pmt_parts.proofs.TextLemmas.{faults_of_pieces}
use Rattle.pmt_parts.proofs.laws.faults_of_pieces.Goals as goal

pub returns : goal.returns
returns c = faults_of_pieces
