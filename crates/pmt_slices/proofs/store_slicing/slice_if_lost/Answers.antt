use Rattle.pmt_slices.proofs.Prelude.{arith, IsLostOrLate}
use Rattle.pmt_slices.proofs.StoreSliceLemmas.{is-lost, is-late, is-neither}
use Rattle.pmt_slices.proofs.store_slicing.slice_if_lost.Goals as goal

pub returns-then-fate : goal.returns-then-fate
returns-then-fate c =
    is-neither c.args.trace.now c.args.thread c.args.number c.args.store c.in_ok-fate.fate c.requires.store c.in_ok-fate.ensures
    (omega (arith, c.if-fate-end.true, c.len-end.ensures.value)) c.if-fate.true

pub returns : goal.returns
returns c =
    let T = c.args.trace.now in
    let f = c.in_ok-fate.fate in
    let found : IsLostOrLate T c.args.number =
    elim c.else-fate-end.branch [
      | goal.else-fate-end-via-then-fate-end+else-fate w ↦ is-late T c.args.thread c.args.number c.args.store f c.requires.store c.in_ok-fate.ensures (omega (arith, w.if-fate.false))
      | goal.else-fate-end-via-else-fate-end w ↦ is-lost T c.args.thread c.args.number c.args.store f c.requires.store c.in_ok-fate.ensures (omega (arith, w.if-fate-end.false, c.len-end.ensures.value))
    ] in
    (found, c.in_ok-cut_to.ensures.0, c.in_ok-cut_to.ensures.1)
