-- The digits are among the first sixteen bytes.
use Rattle.std.proofs.Common.{ap, ◌∙◌, arith}
use Rattle.std.specs.Str.Parse.{digits_value}
use Rattle.std.proofs.lemmas.List.{take-take}
use Rattle.pmt_lanes.proofs.decimal.decimal_number.Goals as goal

pub returns-clause-value : goal.returns-clause-value
returns-clause-value c = c.value_of.ensures ∙ ap (digits_value 10) (take-take c.decimal_run-count.result 16 c.args.text.now (omega (arith, c.decimal_run-count.ensures.within)))
