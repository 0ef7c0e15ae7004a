use Rattle.std.proofs.Common.{ℕ, ◌≤◌, length, take}
use Rattle.pmt_hints.specs.Claiming.{Marks}
use Rattle.pmt_hints.proofs.NamingLemmas.{IsNamingAmong}
use Rattle.pmt_hints.proofs.named.mark_naming.Given as goal

abbrev pub invariant-loop-verdict : goal.invariant-loop-verdict
invariant-loop-verdict l = record {
  marked : Marks (IsNamingAmong l.trace l.role (take l.verdict-index l.verdicts)) l.initial.naming l.naming;
  last : (i : ℕ) → IsNamingAmong l.trace l.role (take l.verdict-index l.verdicts) i → i ≤ l.end;
  within : l.end ≤ length l.trace.events;
}
