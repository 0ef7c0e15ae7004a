use Rattle.std.proofs.Common.{rules, ◌≡◌, length}
use Rattle.pmt_explanation.proofs.CausingLemmas.{causes-none}
use Rattle.pmt_explanation.proofs.causing.causes_of.Goals as goal

pub returns-then-is_empty : goal.returns-then-is_empty
returns-then-is_empty c =
    let none : length c.args.failing.now ≡ 0 = search rules in
    causes-none c.args.safe.now.trace.now c.args.frames.now c.args.failing.now c.new.result.items none c.new.ensures.items
