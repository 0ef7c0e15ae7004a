use Rattle.std.proofs.Common.{◌≡◌, ℕ}
use Rattle.pmt_model.specs.Traces.{history}
use Rattle.pmt_failures.specs.Showing.{has_byte, is_written}
use Rattle.pmt_failures.proofs.unwritten.note_until.Given as goal

abbrev pub invariant-loop-index : goal.invariant-loop-index
invariant-loop-index l = (b : ℕ) → has_byte l.noted.bytes b ≡ is_written (history l.trace l.index) b
