use Rattle.std.proofs.Common.{◌≡◌, ℕ, suc, ◌<◌, true}
use Rattle.std.specs.Prelude.{◌==◌}
use Rattle.pmt_hints.specs.Contrasts.{is_clear}
use Rattle.pmt_hints.specs.Hints.{IsStoreBy}
use Rattle.pmt_hints.specs.Numbers.{of_thread}
use Rattle.pmt_hints.proofs.waiting.has_store_while_open.Given as goal

abbrev pub invariant-loop-index : goal.invariant-loop-index
invariant-loop-index l = record {
  clear : (t : ℕ) → t < 256 → (of_thread l.waiting t == 0) ≡ is_clear l.trace t l.index;
  stores : (k t m : ℕ) → k < l.index → IsStoreBy l.trace t m (suc k) → is_clear l.trace t k ≡ true;
}
