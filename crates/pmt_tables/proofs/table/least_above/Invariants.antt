use Rattle.std.specs.Prelude.{slice_index}
use Rattle.pmt_tables.specs.Lasts.{IsLeastAbove}
use Rattle.pmt_tables.proofs.table.least_above.Given as goal

abbrev pub invariant-loop-k : goal.invariant-loop-k
invariant-loop-k l = IsLeastAbove l.above l.low l.k (λ k. slice_index l.table.numbers k) l.number
