use Rattle.pmt_slices.proofs.CauseLemmas.{slice_tells}
use Rattle.pmt_slices.proofs.laws.slice_tells.Goals as goal

pub returns : goal.returns
returns c = slice_tells
