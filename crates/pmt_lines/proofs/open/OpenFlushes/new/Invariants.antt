use Rattle.std.proofs.Common.{◌≡◌, length, []}
use Rattle.std.specs.Prelude.{All}
use Rattle.pmt_lines.proofs.open.OpenFlushes.new.Given as goal

abbrev pub invariant-loop-thread : goal.invariant-loop-thread
invariant-loop-thread l = (length l.places.items ≡ l._thread) × All (λ v. v.items ≡ []) l.places.items
