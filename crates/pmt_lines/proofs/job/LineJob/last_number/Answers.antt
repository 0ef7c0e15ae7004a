use Rattle.std.proofs.Common.{◌≡◌, ◌-◌, length, Some, sym, arith}
use Rattle.std.specs.Prelude.{slice_get}
use Rattle.std.proofs.lemmas.Option.{slice_get_within}
use Rattle.pmt_lines.proofs.StepLemmas.{last_number-from_last}
use Rattle.pmt_lines.proofs.job.LineJob.last_number.Goals as goal

pub returns-in-Some : goal.returns-in-Some
returns-in-Some c =
    let steps = c.self.inside.steps.items in
    let last = length steps - 1 in
    let is : slice_get steps last ≡ Some c.in-Some.step.now = rw c.deref.ensures.value at (sym c.in-Some.ensures.value) in
    let within = slice_get_within steps last c.in-Some.step.now is in
    rw (← c.self.view_is) (last_number-from_last 0 steps last c.in-Some.step.now (omega (arith, within)) is)
