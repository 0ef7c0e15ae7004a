use Rattle.std.proofs.Common.{◌≡◌, true}
use Rattle.std.specs.Prelude.{◌↔◌}
use Rattle.pmt_hints.specs.NamedBytes.{IsFilled}
use Rattle.pmt_hints.proofs.NamedByteLemmas.{IsAnyIn}
use Rattle.pmt_hints.proofs.named_bytes.replace.Given as goal

abbrev pub invariant-loop-index : goal.invariant-loop-index
invariant-loop-index l = record {
  any : (l.is_any ≡ true) ↔ IsAnyIn l.low l.index l.initial.flags;
  filled : IsFilled l.value l.low l.index l.initial.flags l.flags;
}
