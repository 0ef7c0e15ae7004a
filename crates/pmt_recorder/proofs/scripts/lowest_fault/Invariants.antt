use Rattle.std.proofs.Common.{◌≡◌, drop}
use Rattle.pmt_recorder.specs.Scripts.{first_fault}
use Rattle.pmt_recorder.proofs.scripts.lowest_fault.Given as goal

abbrev pub invariant-loop-number : goal.invariant-loop-number
invariant-loop-number g l = first_fault l.number (drop l.number l.played) ≡ first_fault 0 l.played
