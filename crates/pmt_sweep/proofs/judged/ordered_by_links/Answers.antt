use Rattle.pmt_sweep.proofs.JudgedLemmas.{ordered_by_links}
use Rattle.pmt_sweep.proofs.judged.ordered_by_links.Goals as goal

pub returns : goal.returns
returns c = ordered_by_links
