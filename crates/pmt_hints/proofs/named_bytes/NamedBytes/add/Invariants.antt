use Rattle.std.proofs.Common.{◌*◌}
use Rattle.pmt_hints.specs.NamedBytes.{Adds}
use Rattle.pmt_hints.proofs.NamedByteLemmas.{IsBelow}
use Rattle.pmt_hints.proofs.named_bytes.NamedBytes.add.Given as goal

abbrev pub invariant-loop-block : goal.invariant-loop-block
invariant-loop-block l = Adds (IsBelow l.low l.high (l.block * 64)) l.initial.self l.self
