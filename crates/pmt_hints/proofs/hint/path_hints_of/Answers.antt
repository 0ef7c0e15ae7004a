use Rattle.pmt_causes.proofs.ExactFailures.{origin-exact}
use Rattle.pmt_hints.proofs.hint.path_hints_of.Goals as goal

pub groups-requires : goal.groups-requires
groups-requires c = record { exact = origin-exact }
