-- The digits of the last bytes are put.
use Rattle.std.proofs.Common.{◌-◌, ◌*◌, ◌≤◌, length, drop}
use Rattle.pmt_text.specs.Spelling.{Puts, hex_bytes}
use Rattle.pmt_text.proofs.line_text.put_pairs.Given as goal

abbrev pub invariant-loop-left : goal.invariant-loop-left
invariant-loop-left l = (l.left ≤ length l.bytes) × Puts l.fn.line l.at (hex_bytes (drop l.left l.bytes)) (2 * (length l.bytes - l.left)) l.start l.line

abbrev pub decreases-loop-left : goal.decreases-loop-left
decreases-loop-left l = l.left
