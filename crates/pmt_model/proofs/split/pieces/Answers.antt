use Rattle.std.proofs.Common.{◌≡◌, length, arith}
use Rattle.std.proofs.lemmas.Grind.{common_steps}
use Rattle.std.proofs.lemmas.Bool.Decides.{nat_tests}
use Rattle.pmt_model.proofs.Pieces.{none_left, cut_in_words}
use Rattle.pmt_model.proofs.split.pieces.Goals as goal

pub returns-clause-pieces : goal.returns-clause-pieces
returns-clause-pieces c =
    let e : length c.loop-rest.rest.now ≡ 0 = grind (arith, nat_tests) in
    none_left c.loop-rest.invariant e

pub returns-clause-whole : goal.returns-clause-whole
returns-clause-whole c =
    let e : length c.loop-rest.rest.now ≡ 0 = grind (arith, nat_tests) in
    cut_in_words c.args.addr c.args.bytes.now c.loop-rest.ops.items c.requires (none_left c.loop-rest.invariant e)

pub loop-rest-preserved : goal.loop-rest-preserved
loop-rest-preserved c = grind (arith, common_steps)
