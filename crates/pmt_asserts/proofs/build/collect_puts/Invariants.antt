use Rattle.std.proofs.Common.{◌≡◌, take}
use Rattle.pmt_asserts.specs.Puts.{puts_of}
use Rattle.pmt_asserts.proofs.build.collect_puts.Given as goal

abbrev pub invariant-loop-step : goal.invariant-loop-step
invariant-loop-step l = l.puts.items ≡ puts_of (take l.step-index l.steps)
