use Rattle.pmt_safety.proofs.SafetyLemmas.{safe_from_is_passed}
use Rattle.pmt_safety.proofs.safety.safe_from_is_passed.Goals as goal

pub returns : goal.returns
returns c = safe_from_is_passed
