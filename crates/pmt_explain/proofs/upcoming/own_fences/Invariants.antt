use Rattle.std.proofs.Common.{◌≡◌, ℕ, suc, ◌≤◌, ◌<◌, length}
use Rattle.std.specs.Prelude.{slice_get, Some}
use Rattle.pmt_laws.specs.Prelude.{Event, event}
use Rattle.pmt_explain.specs.Following.{IsFenceAfter, IsFirst, past_of, fence_of}
use Rattle.pmt_explain.proofs.upcoming.own_fences.Given as goal

abbrev pub invariant-loop-index : goal.invariant-loop-index
invariant-loop-index l = record {
  size : length l.fences.items ≡ length l.trace.events;
  ahead : (t : ℕ) → t < 256 → IsFirst (IsFenceAfter l.trace t l.index) (past_of l.trace) (fence_of l.next t);
  each : (n p : ℕ) (e : Event) → l.index ≤ n → slice_get l.fences.items n ≡ Some p → event l.trace (suc n) ≡ Some e → IsFirst (IsFenceAfter l.trace e.thread (suc n)) (past_of l.trace) p;
}
