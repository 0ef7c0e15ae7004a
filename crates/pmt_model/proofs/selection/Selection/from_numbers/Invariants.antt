use Rattle.std.proofs.Common.{◌≡◌}
use Rattle.pmt_model.specs.Selections.{first_fall}
use Rattle.pmt_model.proofs.Falls.{fall_after}
use Rattle.pmt_model.proofs.selection.Selection.from_numbers.Given as goal

abbrev pub invariant-loop-position : goal.invariant-loop-position
invariant-loop-position l = first_fall 0 l.numbers.items ≡ fall_after l.position l.low l.numbers.items
