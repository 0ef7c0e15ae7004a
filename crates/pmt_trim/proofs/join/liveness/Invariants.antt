use Rattle.std.proofs.Common.{◌≡◌, length, take, map}
use Rattle.pmt_trim.proofs.JoinLemmas.{MarksLists}
use Rattle.pmt_trim.proofs.join.liveness.Given as goal

abbrev pub invariant-loop-list : goal.invariant-loop-list
invariant-loop-list l = record {
  size : length l.marked ≡ length l.initial.marked;
  marks : MarksLists l.initial.marked (take l.list-index (map (λ kept. kept.items) l.lists)) l.marked;
}
