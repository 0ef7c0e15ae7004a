use Rattle.pmt_parts.proofs.AsideLemmas.{aside_is_all}
use Rattle.pmt_parts.proofs.laws.aside_is_all.Goals as goal

pub returns : goal.returns
returns c = aside_is_all
