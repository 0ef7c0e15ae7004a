use Rattle.std.proofs.Common.{◌≡◌, ℕ, suc, ◌≤◌, length}
use Rattle.std.specs.Prelude.{slice_get, Some}
use Rattle.pmt_laws.specs.Prelude.{Flushes, IsAct}
use Rattle.pmt_explain.specs.Following.{IsFirst, past_of}
use Rattle.pmt_hints.specs.Contrasts.{IsStoreElsewhere}
use Rattle.pmt_hints.proofs.OpenAtLemmas.{StoresFrom}
use Rattle.pmt_hints.proofs.contrast.next_stores.Given as goal

abbrev pub invariant-loop-index : goal.invariant-loop-index
invariant-loop-index l = record {
  size : length l.nexts.items ≡ length l.trace.events;
  stores : StoresFrom l.trace l.index l.stores;
  each : (k x t m : ℕ) → l.index ≤ k → slice_get l.nexts.items k ≡ Some x → IsAct l.trace (suc k) (Flushes t m) → IsFirst (IsStoreElsewhere l.trace t m (suc k)) (past_of l.trace) x;
}
