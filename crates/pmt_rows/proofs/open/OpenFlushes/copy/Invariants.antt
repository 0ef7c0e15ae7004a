use Rattle.std.proofs.Common.{◌≡◌, map, take}
use Rattle.pmt_rows.proofs.open.OpenFlushes.copy.Given as goal

abbrev pub invariant-loop-list : goal.invariant-loop-list
invariant-loop-list l = map (λ list. list.items) l.lists.items ≡ map (λ list. list.items) (take l.list-index l.list-items)
