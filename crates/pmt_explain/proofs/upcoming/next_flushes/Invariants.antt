use Rattle.std.proofs.Common.{◌≡◌, ℕ, suc, ◌≤◌, length}
use Rattle.std.specs.Prelude.{slice_get, Some}
use Rattle.pmt_explain.specs.Following.{TellsNextFlush}
use Rattle.pmt_explain.proofs.UpcomingLemmas.{IsAheadOf}
use Rattle.pmt_explain.proofs.upcoming.next_flushes.Given as goal

abbrev pub invariant-loop-index : goal.invariant-loop-index
invariant-loop-index l = record {
  size : length l.list.items ≡ length l.trace.events;
  ahead : IsAheadOf l.trace l.index l.next;
  each : (n p : ℕ) → l.index ≤ n → slice_get l.list.items n ≡ Some p → TellsNextFlush l.trace (suc n) p;
}
