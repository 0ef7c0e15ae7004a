use Rattle.pmt_laws.proofs.KeepLemmas.{keep_is_selection}
use Rattle.pmt_trimming.proofs.TrimmingLemmas.{selection-within}
use Rattle.pmt_trimming.proofs.HeadlineLemmas.{keep-is-trimmed}
use Rattle.pmt_trimming.proofs.trimming.trim.Goals as goal

pub select-requires : goal.select-requires
select-requires c =
    let T = c.args.trace.now in
    selection-within T c.in_ok-selection.selection (keep_is_selection T c.in_ok-selection.selection c.in_ok-selection.ensures)

pub returns : goal.returns
returns c = keep-is-trimmed c.args.trace.now c.in_ok-selection.selection c.in_ok-trimmed.trimmed c.in_ok-selection.ensures c.in_ok-trimmed.ensures
