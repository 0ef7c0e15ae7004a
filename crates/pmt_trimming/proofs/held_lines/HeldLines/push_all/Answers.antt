use Rattle.std.proofs.Common.{List, ℕ, ◌++◌, ap, ◌∙◌}
use Rattle.pmt_trimming.specs.LineQueues.{Queued, cut_by}
use Rattle.pmt_trimming.proofs.HeldLemmas.{held-all}
use Rattle.pmt_trimming.proofs.held_lines.HeldLines.push_all.Goals as goal

pub returns-clause-lines : goal.returns-clause-lines
returns-clause-lines c =
    let old = c.self.inside in
    held-all old.run.end old.run.from old.run.at old.left old.lengths.items _ old.bytes.items _ c.args.lengths.now c.args.lines.now c.self.invariant
    c.in_ok-extend_from_slice.ensures.items
    (c.in_ok-extend_from_slice-2.ensures.items ∙ ap (λ (bytes : List ℕ). bytes ++ c.args.lines.now) c.in_ok-reserve.ensures.items)
    ∙ ap (λ (q : Queued). q.lines ++ cut_by c.args.lengths.now c.args.lines.now) c.self.view_is
