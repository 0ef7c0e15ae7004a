use Rattle.pmt_causes.proofs.ExactFailures.{lost-exact}
use Rattle.pmt_causes.proofs.lost.lost_causes.Goals as goal

pub groups-requires : goal.groups-requires
groups-requires c = record { exact = lost-exact }
