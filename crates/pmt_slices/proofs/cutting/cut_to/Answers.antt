use Rattle.pmt_slices.proofs.SliceLemmas.{slice-within}
use Rattle.pmt_slices.proofs.cutting.cut_to.Goals as goal

pub select-requires : goal.select-requires
select-requires c = slice-within c.args.trace.now c.args.number c.args.numbers c.requires.assertion c.requires.slice
