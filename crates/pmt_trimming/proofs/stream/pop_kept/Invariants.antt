use Rattle.std.proofs.Common.{◌≡◌, ◌++◌, drop}
use Rattle.pmt_trimming.specs.LineQueues.{kept_texts}
use Rattle.pmt_trimming.proofs.stream.pop_kept.Given as goal

abbrev pub invariant-loop-kept : goal.invariant-loop-kept
invariant-loop-kept l = l.queue.text ++ kept_texts (drop l.kept-index l.flags) l.queue.lines ≡ l.fn.queue.text ++ kept_texts l.fn.flags l.fn.queue.lines
