use Rattle.pmt_parts.proofs.TextLemmas.{events_of_pieces}
use Rattle.pmt_parts.proofs.laws.events_of_pieces.Goals as goal

pub returns : goal.returns
returns c = events_of_pieces
