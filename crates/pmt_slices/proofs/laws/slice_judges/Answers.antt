use Rattle.pmt_slices.proofs.SliceLemmas.{slice_judges}
use Rattle.pmt_slices.proofs.laws.slice_judges.Goals as goal

pub returns : goal.returns
returns c = slice_judges
