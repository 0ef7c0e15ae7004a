use Rattle.pmt_laws.proofs.WorkedLemmas.{clflush_beats_clwb_says}
use Rattle.pmt_laws.proofs.worked.clflush_beats_clwb.Goals as goal

pub returns : goal.returns
returns c = clflush_beats_clwb_says
