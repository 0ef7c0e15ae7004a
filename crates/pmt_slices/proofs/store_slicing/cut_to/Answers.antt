use Rattle.pmt_slices.proofs.StoreSliceLemmas.{store-slice-within}
use Rattle.pmt_slices.proofs.store_slicing.cut_to.Goals as goal

pub select-requires : goal.select-requires
select-requires c = store-slice-within c.args.trace.now c.args.number c.args.numbers c.requires
