use Rattle.std.proofs.Common.{◌≡◌, ◌++◌, take}
use Rattle.pmt_sweep.specs.Found.{overwritten}
use Rattle.pmt_sweep.proofs.adding.push_overwritten.Given as goal

abbrev pub invariant-loop-index : goal.invariant-loop-index
invariant-loop-index l = l.found.items ≡ l.fn.found.items ++ overwritten (take l.index l.over)
