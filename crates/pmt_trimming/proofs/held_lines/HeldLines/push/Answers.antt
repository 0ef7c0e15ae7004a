use Rattle.std.proofs.Common.{ℕ, List, ◌++◌, ◌∷◌, [], length, ap, ◌∙◌}
use Rattle.pmt_trimming.specs.LineQueues.{Queued}
use Rattle.pmt_trimming.proofs.HeldLemmas.{held-with, held-lines, held-text}
use Rattle.pmt_trimming.proofs.held_lines.HeldLines.push.Goals as goal

pub invariant_of-self-2 : goal.invariant_of-self-2
invariant_of-self-2 c =
    let old = c.self.inside in
    held-with old.run.end old.run.from old.run.at old.left old.lengths.items _ old.bytes.items _ c.args.line.now c.self.invariant
    (c.push_reserved.ensures.items ∙ ap (λ (ns : List ℕ). ns ++ length c.args.line.now ∷ []) c.in_ok-reserve.ensures.items) c.in_ok-extend_from_slice.ensures.items

pub returns-clause-lines : goal.returns-clause-lines
returns-clause-lines c =
    let old = c.self.inside in
    held-lines old.run.end old.run.from old.run.at old.left old.lengths.items _ old.bytes.items _ c.args.line.now c.self.invariant
    (c.push_reserved.ensures.items ∙ ap (λ (ns : List ℕ). ns ++ length c.args.line.now ∷ []) c.in_ok-reserve.ensures.items) c.in_ok-extend_from_slice.ensures.items
    ∙ ap (λ (q : Queued). q.lines ++ c.args.line.now ∷ []) c.self.view_is

pub returns-clause-text : goal.returns-clause-text
returns-clause-text c =
    let old = c.self.inside in
    held-text old.run.end old.run.from old.run.at old.left old.lengths.items old.bytes.items _ c.args.line.now c.self.invariant c.in_ok-extend_from_slice.ensures.items ∙ ap (λ (q : Queued). q.text) c.self.view_is
