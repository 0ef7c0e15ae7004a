use Rattle.std.proofs.Common.{drop, ap, ◌∙◌, arith}
use Rattle.std.proofs.lemmas.Grind.{elements}
use Rattle.pmt_trimming.specs.LineQueues.{Queued}
use Rattle.pmt_trimming.proofs.QueueLemmas.{no-line, no-queue, none-cut, none-left}
use Rattle.pmt_trimming.proofs.line_queue.LineQueue.put.Goals as goal

pub invariant_of-self : goal.invariant_of-self
invariant_of-self c =
    let old = c.self.inside in
    no-queue old.lengths.items old.end old.start old.bytes.items _ _ (ap (λ (q : Queued). q.lines) c.self.view_is ∙ c.requires) c.self.invariant c.truncate.ensures.items c.in_err-extend_from_slice.ensures.items

pub invariant_of-self-2 : goal.invariant_of-self-2
invariant_of-self-2 c =
    let old = c.self.inside in
    no-line old.lengths.items (drop old.start old.bytes.items) _ _ (ap (λ (q : Queued). q.lines) c.self.view_is ∙ c.requires) (omega (arith, c.len-self-inside.ensures))

pub returns-clause-lines : goal.returns-clause-lines
returns-clause-lines c =
    let old = c.self.inside in
    none-left old.lengths.items _ (none-cut old.lengths.items (drop old.start old.bytes.items) (ap (λ (q : Queued). q.lines) c.self.view_is ∙ c.requires))

pub returns-clause-text : goal.returns-clause-text
returns-clause-text c = grind (arith, elements)
