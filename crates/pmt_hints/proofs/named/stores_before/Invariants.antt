use Rattle.std.proofs.Common.{◌≡◌, ℕ, suc, ◌≤◌, Bool, true, length}
use Rattle.std.specs.Prelude.{◌↔◌, slice_get, Some}
use Rattle.pmt_hints.specs.Hints.{IsNamed}
use Rattle.pmt_hints.specs.NamedBytes.{AreNamedBytes, HasByte}
use Rattle.pmt_hints.proofs.NamingLemmas.{IsWanted}
use Rattle.pmt_hints.proofs.named.stores_before.Given as goal

abbrev pub invariant-loop-index : goal.invariant-loop-index
invariant-loop-index l = record {
  size : length l.flags.items ≡ length l.trace.events;
  are : AreNamedBytes l.bytes;
  told : (b : ℕ) → HasByte l.bytes b ↔ IsWanted l.trace l.role l.index b;
  each : (k : ℕ) (f : Bool) → l.index ≤ k → slice_get l.flags.items k ≡ Some f → (f ≡ true) ↔ IsNamed l.trace l.role (suc k);
}
