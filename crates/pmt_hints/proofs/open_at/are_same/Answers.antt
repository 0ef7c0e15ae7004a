use Rattle.std.proofs.lemmas.Slice.Eq.{slice_eq-Decides}
use Rattle.pmt_hints.proofs.PathLemmas.{option-decides}
use Rattle.pmt_hints.proofs.open_at.are_same.Goals as goal

pub returns : goal.returns
returns c = (slice_eq-Decides option-decides c.args.labels.now c.args.paths.now c.eq.result c.eq.ensures).0
