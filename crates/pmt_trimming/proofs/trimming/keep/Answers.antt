use Rattle.pmt_trimming.proofs.TrimmingLemmas.{keep-flagged}
use Rattle.pmt_trimming.proofs.trimming.keep.Goals as goal

pub returns : goal.returns
returns c =
    let just = rw c.as_slice.ensures.value at c.in_ok-selection.ensures.just in
    keep-flagged c.args.trace.now c.in_ok-kept.kept.items c.in_ok-selection.selection c.in_ok-kept.ensures c.in_ok-selection.ensures.rising just
