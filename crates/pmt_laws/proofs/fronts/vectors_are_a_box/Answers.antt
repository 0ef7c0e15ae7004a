use Rattle.pmt_laws.proofs.BoxLemmas.{vectors_are_a_box}
use Rattle.pmt_laws.proofs.fronts.vectors_are_a_box.Goals as goal

pub returns : goal.returns
returns c = vectors_are_a_box
