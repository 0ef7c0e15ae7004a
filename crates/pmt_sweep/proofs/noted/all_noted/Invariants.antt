use Rattle.std.proofs.Common.{◌≡◌, take}
use Rattle.pmt_sweep.proofs.noted.all_noted.Given as goal

abbrev pub invariant-loop-index : goal.invariant-loop-index
invariant-loop-index l = l.list.items ≡ take l.index l.findings
