use Rattle.std.proofs.Common.{ℕ, ◌*◌, ◌≤◌}
use Rattle.pmt_explain.specs.Crashes.{GoesOn, IsWordIn}
use Rattle.pmt_explain.proofs.first_in.first_with_part.Given as goal

abbrev pub invariant-loop-byte : goal.invariant-loop-byte
invariant-loop-byte l = record { from : l.start ≤ l.byte; first : (i : ℕ) → IsWordIn l.search i l.words l.index l.word → GoesOn l.search i (l.word * 8) l.byte l.fn.first l.earliest }
