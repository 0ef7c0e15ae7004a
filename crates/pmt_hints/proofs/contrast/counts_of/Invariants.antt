use Rattle.std.proofs.Common.{◌≡◌, ℕ, ◌<◌}
use Rattle.std.specs.Prelude.{◌==◌}
use Rattle.pmt_hints.specs.Contrasts.{as_asked, contrast_upto, count_at, is_asked, is_clear}
use Rattle.pmt_hints.specs.Numbers.{of_thread}
use Rattle.pmt_hints.proofs.contrast.counts_of.Given as goal

abbrev pub invariant-loop-index : goal.invariant-loop-index
invariant-loop-index l = record {
  clear : (t : ℕ) → t < 256 → (of_thread l.waiting t == 0) ≡ is_clear l.trace t l.index;
  counts : (s : _) → count_at l.counts s ≡ as_asked (is_asked l.trace l.labels l.nexts l.hints s) (contrast_upto l.trace l.labels s l.index);
}
