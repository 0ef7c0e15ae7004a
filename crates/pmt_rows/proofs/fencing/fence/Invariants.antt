use Rattle.std.proofs.Common.{◌≡◌, ℕ, List, length}
use Rattle.pmt_model.specs.Traces.{Recording}
use Rattle.pmt_rows.specs.Waiting.{AreAtFence}
use Rattle.pmt_rows.proofs.FencingLemmas.{IsDeciding}
use Rattle.pmt_rows.proofs.fencing.fence.Given as goal

abbrev pub invariant-loop-index : goal.invariant-loop-index
invariant-loop-index l = record {
  size : length l.kept ≡ length l.fn.kept;
  decides : (T : Recording) (lines : List ℕ) (n : ℕ) (safe : ℕ → ℕ) → AreAtFence T lines n l.number safe l.fn.rows l.fn.links l.fn.flushes →
      IsDeciding T lines n safe l.rows l.links l.fn.kept l.kept l.flushes l.index l.rises;
}
