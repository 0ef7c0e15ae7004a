use Rattle.pmt_laws.proofs.StayLemmas.{never_persisted_stays}
use Rattle.pmt_laws.proofs.verdicts.never_persisted_stays.Goals as goal

pub returns : goal.returns
returns c = never_persisted_stays
