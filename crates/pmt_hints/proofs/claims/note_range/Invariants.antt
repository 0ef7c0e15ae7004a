use Rattle.std.proofs.Common.{◌≡◌, ℕ, ◌≤◌, ◌⊎◌}
use Rattle.std.specs.Prelude.{◌&&◌, nat_le, nat_lt}
use Rattle.pmt_hints.specs.Claiming.{claim_at, or_so}
use Rattle.pmt_hints.proofs.claims.note_range.Given as goal

abbrev pub invariant-loop-line : goal.invariant-loop-line
invariant-loop-line l = record {
  at : (l.line ≡ l.first) ⊎ (l.line ≤ l.end);
  from : l.first ≤ l.line;
  claims : (m : ℕ) → claim_at l.claims m ≡ or_so (nat_le l.first m && nat_lt m l.line) (claim_at l.initial.claims m);
}
