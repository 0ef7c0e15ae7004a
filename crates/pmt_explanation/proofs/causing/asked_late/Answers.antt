use Rattle.pmt_causes.proofs.LateLemmas.{late-exact}
use Rattle.pmt_explanation.proofs.causing.asked_late.Goals as goal

pub groups-requires : goal.groups-requires
groups-requires c = record { exact = late-exact }
