use Rattle.std.proofs.Common.{◌≡◌, ◌≤◌, ◌⊎◌, length}
use Rattle.pmt_tables.proofs.ByteLemmas.{IsWrittenTo}
use Rattle.pmt_tables.proofs.table.write.Given as goal

abbrev pub invariant-loop-k : goal.invariant-loop-k
invariant-loop-k l = record {
  many : length l.table.numbers ≡ length l.initial.table.numbers;
  end : (l.k ≡ l.low) ⊎ (l.k ≤ l.high);
  written : IsWrittenTo l.low l.k l.number l.initial.table.numbers l.table.numbers;
}
