use Rattle.std.proofs.Common.{◌≡◌, ◌++◌, drop, map}
use Rattle.pmt_trimming.specs.LineQueues.{kept_texts}
use Rattle.pmt_trimming.specs.Passing.{flag_by}
use Rattle.pmt_trimming.proofs.whole_text.pop_kept.Given as goal

abbrev pub invariant-loop-mark : goal.invariant-loop-mark
invariant-loop-mark l = l.held.text ++ kept_texts (map (λ m. flag_by m) (drop l.mark-index l.marks)) l.held.lines ≡ l.fn.held.text ++ kept_texts (map (λ m. flag_by m) l.fn.marks) l.fn.held.lines
