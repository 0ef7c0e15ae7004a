use Rattle.std.specs.Prelude.{ℕ, ◌≤◌}
use Rattle.pmt_hints.specs.GoingOn.{IsRest}
use Rattle.pmt_hints.proofs.GoingLemmas.{AnyStoresUpTo}
use Rattle.pmt_hints.proofs.short_runs.has_rest.Given as goal

abbrev pub invariant-loop-index : goal.invariant-loop-index
invariant-loop-index l = record { stores : AnyStoresUpTo l.trace l.index l.stores; none : (t m i : ℕ) → i ≤ l.index → ¬ IsRest l.trace l.labels t m i }
