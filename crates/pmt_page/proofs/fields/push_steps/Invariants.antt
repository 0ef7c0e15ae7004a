use Rattle.pmt_page.proofs.Prelude.{◌≡◌, ◌++◌, drop, steps}
use Rattle.pmt_page.proofs.fields.push_steps.Given as goal

abbrev pub invariant-loop-number : goal.invariant-loop-number
invariant-loop-number l = l.text.items ++ steps l.before (drop l.number-index l.numbers) ≡ l.initial.text.items ++ steps 0 l.numbers
