use Rattle.pmt_slices.proofs.VerdictLemmas.{verdict_by_selection}
use Rattle.pmt_slices.proofs.laws.verdict_by_selection.Goals as goal

pub returns : goal.returns
returns c = verdict_by_selection
