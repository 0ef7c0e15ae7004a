use Rattle.std.proofs.Common.{◌≡◌, ℕ, length, drop, ap, ◌∙◌, ◌==◌, sym, arith, deque_len}
use Rattle.pmt_trimming.specs.LineQueues.{Queued}
use Rattle.pmt_trimming.proofs.QueueLemmas.{length-cut}
use Rattle.pmt_trimming.proofs.line_queue.LineQueue.is_empty.Goals as goal

pub returns : goal.returns
returns c =
    let old = c.self.inside in
    let size : deque_len old.lengths ≡ length old.lengths.items = omega (arith, old.lengths.ok.0) in
    c.is_empty.ensures
    ∙ ap (λ (n : ℕ). n == 0) (size ∙ sym (length-cut old.lengths.items (drop old.start old.bytes.items)) ∙ ap (λ (q : Queued). length q.lines) c.self.view_is)
