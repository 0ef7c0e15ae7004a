use Rattle.pmt_parts.proofs.AsideLemmas.{aside_by_whole}
use Rattle.pmt_parts.proofs.laws.aside_by_whole.Goals as goal

pub returns : goal.returns
returns c = aside_by_whole
