use Rattle.std.specs.Prelude.{slice_index}
use Rattle.pmt_tables.specs.Lasts.{IsNewest}
use Rattle.pmt_tables.proofs.table.newest.Given as goal

abbrev pub invariant-loop-k : goal.invariant-loop-k
invariant-loop-k l = IsNewest l.low l.k (λ k. slice_index l.table.numbers k) l.number
