use Rattle.std.proofs.Common.{ℕ, List, ◌++◌, length}
use Rattle.pmt_model.specs.Traces.{Recording}
use Rattle.pmt_trimming.specs.Streaming.{IsStreamOf}
use Rattle.pmt_trimming.proofs.stream.Stream.leave.Given as goal

abbrev pub invariant-loop-kept : goal.invariant-loop-kept
invariant-loop-kept l = (T : Recording) (text : List ℕ) → IsStreamOf T l.initial.self (text ++ l.initial.self.queue.text) → IsStreamOf T l.self (text ++ l.self.queue.text)

abbrev pub decreases-loop-kept : goal.decreases-loop-kept
decreases-loop-kept l = length l.self.pass.marks.items
