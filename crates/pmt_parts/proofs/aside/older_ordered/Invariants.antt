use Rattle.pmt_parts.proofs.Prelude.{◌≤◌, IsMet}
use Rattle.pmt_parts.proofs.aside.older_ordered.Given as goal

abbrev pub invariant-loop-index : goal.invariant-loop-index
invariant-loop-index l = record {
  from : l.place ≤ l.index;
  met : IsMet l.trace l.place l.before l.index l.met;
}
