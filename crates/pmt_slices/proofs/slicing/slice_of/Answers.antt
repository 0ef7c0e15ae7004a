use Rattle.std.proofs.Common.{arith}
use Rattle.pmt_slices.proofs.slicing.slice_of.Goals as goal

pub ordered_slice-requires : goal.ordered_slice-requires
ordered_slice-requires c = grind arith
