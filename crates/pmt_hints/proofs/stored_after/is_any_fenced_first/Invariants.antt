use Rattle.std.specs.Prelude.{◌≡◌, ℕ, ◌<◌, false}
use Rattle.pmt_hints.specs.Leaving.{is_left_first}
use Rattle.pmt_hints.proofs.stored_after.is_any_fenced_first.Given as goal

abbrev pub invariant-loop-index : goal.invariant-loop-index
invariant-loop-index l = (k : ℕ) → k < l.index → is_left_first l.waited l.places l.fences l.flushes k ≡ false
