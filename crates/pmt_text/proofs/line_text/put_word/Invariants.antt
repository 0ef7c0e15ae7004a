-- What is left of the word to put stands in front of what was put.
use Rattle.std.proofs.Common.{◌-◌, ◌≤◌, length, drop}
use Rattle.pmt_text.specs.Spelling.{Puts}
use Rattle.pmt_text.proofs.line_text.put_word.Given as goal

abbrev pub invariant-loop-left : goal.invariant-loop-left
invariant-loop-left l = (l.left ≤ length l.word) × Puts l.fn.line l.at (drop l.left l.word) (length l.word - l.left) l.start l.line

abbrev pub decreases-loop-left : goal.decreases-loop-left
decreases-loop-left l = l.left
