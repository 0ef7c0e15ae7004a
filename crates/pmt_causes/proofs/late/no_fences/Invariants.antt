use Rattle.std.proofs.Common.{◌≡◌, ◌≤◌, ◌-◌, [], map, length}
use Rattle.std.specs.Prelude.{replicate}
use Rattle.pmt_causes.proofs.late.no_fences.Given as goal

abbrev pub invariant-loop-alloc : goal.invariant-loop-alloc
invariant-loop-alloc l = record {
  few : length l.fences.items ≤ 256;
  empty : map (λ list. list.items) l.fences.items ≡ replicate (length l.fences.items) [];
}

abbrev pub decreases-loop-alloc : goal.decreases-loop-alloc
decreases-loop-alloc l = 256 - length l.fences.items
