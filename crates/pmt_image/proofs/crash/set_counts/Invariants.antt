use Rattle.pmt_image.proofs.Prelude.{◌≡◌, ℕ, drop, count_in, with_counts}
use Rattle.pmt_image.proofs.crash.set_counts.Given as goal

abbrev pub invariant-loop-index : goal.invariant-loop-index
invariant-loop-index l = (k : ℕ) → with_counts (drop l.index l.lines) (count_in l.table) k ≡ with_counts l.lines (count_in l.fn.table) k
