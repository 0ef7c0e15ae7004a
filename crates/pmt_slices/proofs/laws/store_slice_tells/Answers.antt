use Rattle.pmt_slices.proofs.StoreSliceLemmas.{store_slice_tells}
use Rattle.pmt_slices.proofs.laws.store_slice_tells.Goals as goal

pub returns : goal.returns
returns c = store_slice_tells
