use Rattle.std.proofs.Common.{ℕ, ◌*◌}
use Rattle.pmt_explain.specs.Crashes.{IsFirstBelow, range_of}
use Rattle.pmt_explain.specs.Writers.{Knows}
use Rattle.pmt_explain.proofs.first_in.first_in.Given as goal

abbrev pub invariant-loop-block : goal.invariant-loop-block
invariant-loop-block l = (i : ℕ) → Knows l.search.trace.now i (range_of l.search) l.writers → IsFirstBelow l.search i (l.block * 64) l.first
