use Rattle.std.proofs.Common.{◌≡◌, length, rules, arith}
use Rattle.std.proofs.lemmas.Grind.{elements}
use Rattle.pmt_explain.proofs.LostGroupLemmas.{lost-none}
use Rattle.pmt_explain.proofs.lost_grouping.lost_groups.Goals as goal

pub returns-then-is_empty : goal.returns-then-is_empty
returns-then-is_empty c =
    let none : length c.args.stores.now ≡ 0 = search rules in
    lost-none c.args.trace.now c.args.stores.now c.new.result.items none c.new.ensures.items

pub add_by-requires-clause-causes : goal.add_by-requires-clause-causes
add_by-requires-clause-causes c = grind (arith, elements)

pub returns-in_err-add_by : goal.returns-in_err-add_by
returns-in_err-add_by c = grind (arith, elements)

pub returns : goal.returns
returns c = grind (arith, elements)
