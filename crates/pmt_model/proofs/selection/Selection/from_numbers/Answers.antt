use Rattle.std.proofs.Common.{◌≤◌, ◌∙◌, length, arith}
use Rattle.std.proofs.lemmas.Grind.{common_steps}
use Rattle.pmt_model.proofs.Falls.{no-fall-rises, fall-ends}
use Rattle.pmt_model.proofs.selection.Selection.from_numbers.Goals as goal

pub invariant_of-result : goal.invariant_of-result
invariant_of-result c =
    let past : length c.args.numbers.items ≤ c.loop-position.position = omega arith in
    no-fall-rises 0 _ (c.loop-position.invariant ∙ fall-ends c.loop-position.position c.loop-position.low c.args.numbers.items past)

pub loop-position-preserved : goal.loop-position-preserved
loop-position-preserved c = grind (arith, common_steps)
