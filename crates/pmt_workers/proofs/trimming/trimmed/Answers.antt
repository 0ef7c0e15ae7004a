use Rattle.std.proofs.Common.{rules, ◌≡◌}
use Rattle.pmt_model.specs.Selections.{cut}
use Rattle.pmt_laws.proofs.KeepLemmas.{keep_is_selection}
use Rattle.pmt_trimming.proofs.TrimmingLemmas.{selection-within}
use Rattle.pmt_trimming.proofs.HeadlineLemmas.{keep-is-trimmed}
use Rattle.pmt_workers.proofs.trimming.trimmed.Goals as goal

pub select-requires : goal.select-requires
select-requires c =
    let a = c.args.analysis.now in
    rw (c.trace.ensures.value, c.selection.ensures.value)
    (selection-within a.trace a.selection (keep_is_selection a.trace a.selection c.trace.ensures.right.right.kept))

pub returns : goal.returns
returns c =
    let a = c.args.analysis.now in
    let same : c.in_ok-trimmed.trimmed ≡ cut a.trace a.selection = search rules in
    keep-is-trimmed a.trace a.selection c.in_ok-trimmed.trimmed c.trace.ensures.right.right.kept same
