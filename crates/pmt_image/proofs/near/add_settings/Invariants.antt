use Rattle.pmt_image.proofs.Prelude.{◌≡◌, ◌++◌, map, low_of, set_to}
use Rattle.pmt_image.proofs.near.add_settings.Given as goal

abbrev pub invariant-loop-step : goal.invariant-loop-step
invariant-loop-step l = map (λ choice. choice.items) l.more.items ≡ map (λ choice. choice.items) l.initial.more.items ++ set_to l.choice l.line.line (low_of l.all l.line) l.step
