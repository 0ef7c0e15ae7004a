use Rattle.pmt_slices.proofs.FailureLemmas.{slice_fails}
use Rattle.pmt_slices.proofs.laws.slice_fails.Goals as goal

pub returns : goal.returns
returns c = slice_fails
