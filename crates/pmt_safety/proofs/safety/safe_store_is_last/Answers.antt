use Rattle.pmt_safety.proofs.SafetyLemmas.{safe_store_is_last}
use Rattle.pmt_safety.proofs.safety.safe_store_is_last.Goals as goal

pub returns : goal.returns
returns c = safe_store_is_last
