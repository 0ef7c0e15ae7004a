use Rattle.std.proofs.Common.{◌≡◌, ◌*◌, ◌≤◌, take}
use Rattle.pmt_workers.specs.Answering.{steps_of}
use Rattle.pmt_workers.proofs.cut.steps_in.Given as goal

abbrev pub invariant-loop-i : goal.invariant-loop-i
invariant-loop-i l = (l.steps ≡ steps_of (take l.i l.jobs)) × (l.steps ≤ 1000000 * l.i)
