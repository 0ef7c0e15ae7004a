use Rattle.pmt_laws.proofs.BoxLemmas.{vectors_are_a_box}
use Rattle.pmt_laws.proofs.KeepLemmas.{keep_is_faithful}
use Rattle.pmt_laws.proofs.keeping.keep_is_faithful.Goals as goal

pub returns : goal.returns
returns c = keep_is_faithful vectors_are_a_box
