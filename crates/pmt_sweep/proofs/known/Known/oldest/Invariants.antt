use Rattle.std.proofs.Common.{ℕ, ◌*◌}
use Rattle.pmt_model.specs.Traces.{Recording}
use Rattle.pmt_sweep.specs.Known.{IsLineAt, last_in_line}
use Rattle.pmt_sweep.proofs.ReadingLemmas.{IsOldestBelow}
use Rattle.pmt_sweep.proofs.known.Known.oldest.Given as goal

abbrev pub invariant-loop-word : goal.invariant-loop-word
invariant-loop-word l = (T : Recording) (n k : ℕ) → IsLineAt T n k l.slot l.self → IsOldestBelow l.low l.high (l.word * 8) (last_in_line T n k) l.oldest
