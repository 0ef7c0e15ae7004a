use Rattle.pmt_image.proofs.LayLemmas.{AreLaid}
use Rattle.pmt_image.proofs.laying.lay_stores.Given as goal

abbrev pub invariant-loop-index : goal.invariant-loop-index
invariant-loop-index l = AreLaid l.at l.stores l.index l.fn.bytes l.bytes
