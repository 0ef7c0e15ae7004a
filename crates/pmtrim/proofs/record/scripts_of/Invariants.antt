use Rattle.std.proofs.Common.{◌≡◌, length}
use Rattle.pmtrim.proofs.record.scripts_of.Given as goal

abbrev pub invariant-loop-place : goal.invariant-loop-place
invariant-loop-place g l = length l.scripts.items ≡ l.place
