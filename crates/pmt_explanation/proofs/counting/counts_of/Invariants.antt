use Rattle.std.proofs.Common.{◌≡◌, ℕ, ◌+◌, ◌<◌, ◌≤◌, false, get_or, length, take}
use Rattle.pmt_explanation.specs.Summing.{has_made}
use Rattle.pmt_explanation.proofs.CountingLemmas.{AreCounted}
use Rattle.pmt_explanation.proofs.counting.counts_of.Given as goal

abbrev pub invariant-loop-event : goal.invariant-loop-event
invariant-loop-event l = record {
  counted : AreCounted (take l.event-index l.events) l.counts;
  few : l.counts.stores + l.counts.flushes + l.counts.fences ≤ l.event-index;
  all : length l.seen ≡ 256;
  each : (t : ℕ) → t < 256 → get_or l.seen t false ≡ has_made (take l.event-index l.events) t;
}
