use Rattle.pmt_trimming.proofs.HeadlineLemmas.{same_counts}
use Rattle.pmt_trimming.proofs.shortest.shortest_selection.Goals as goal

pub returns-clause-same : goal.returns-clause-same
returns-clause-same c = same_counts c.args.trace.now c.in_ok-selection.selection c.in_ok-selection.field-0-0 c.in_ok-selection.ensures
