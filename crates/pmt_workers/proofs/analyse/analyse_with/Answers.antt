use Rattle.std.proofs.Common.{refl}
use Rattle.pmt_model.specs.Selections.{cut}
use Rattle.pmt_trimming.proofs.HeadlineLemmas.{keep-is-trimmed}
use Rattle.pmt_workers.proofs.analyse.analyse_with.Goals as goal

pub returns-clause-trimmed : goal.returns-clause-trimmed
returns-clause-trimmed g c =
    let a = c.in_ok-analysis.analysis in
    keep-is-trimmed a.trace a.selection (cut a.trace a.selection) c.in_ok-analysis.ensures.right.right.kept refl
