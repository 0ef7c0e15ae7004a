-- Proved in NoneCanGoLemmas.
use Rattle.pmt_laws.proofs.NoneCanGoLemmas.{none_can_go}
use Rattle.pmt_laws.proofs.needed.none_can_go.Goals as goal

pub returns : goal.returns
returns c = none_can_go
