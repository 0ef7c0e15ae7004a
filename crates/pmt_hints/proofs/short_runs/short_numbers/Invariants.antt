use Rattle.std.specs.Prelude.{ℕ, ◌<◌, ◌≤◌}
use Rattle.pmt_hints.specs.GoingOn.{GoesFurther, IsRest}
use Rattle.pmt_hints.specs.Hints.{IsOneLineShort}
use Rattle.pmt_hints.specs.Claiming.{AreUpTo}
use Rattle.pmt_hints.specs.Numbers.{flush_at, of_thread}
use Rattle.pmt_hints.proofs.GoingLemmas.{AnyStoresUpTo, LinesUpTo}
use Rattle.pmt_hints.proofs.StoredAfterLemmas.{FencesUpTo}
use Rattle.pmt_hints.proofs.short_runs.short_numbers.Given as goal

abbrev pub invariant-loop-index : goal.invariant-loop-index
invariant-loop-index l = record {
  fences : FencesUpTo l.trace l.index l.fences;
  stores : AnyStoresUpTo l.trace l.index l.stores;
  bound : (t k : ℕ) → t < 256 → flush_at l.rests t k ≤ of_thread l.lasts t;
  rests : LinesUpTo (IsRest l.trace l.labels) l.index l.rests;
  further : LinesUpTo (GoesFurther l.trace l.labels) l.index l.further;
  numbers : AreUpTo (IsOneLineShort l.trace l.labels) l.index l.numbers.items;
}
