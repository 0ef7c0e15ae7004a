use Rattle.std.proofs.Common.{arith}
use Rattle.pmt_explain_json.specs.Lines.{site_at}
use Rattle.pmt_explain_json.proofs.Arrays.{array-of-all}
use Rattle.pmt_explain_json.proofs.Pushing.{value-pushed}
use Rattle.pmt_explain_json.proofs.weighed.members_value.Goals as goal

pub loop-member-preserved : goal.loop-member-preserved
loop-member-preserved c =
    value-pushed (site_at c.args.labels.now c.args.sites.now) c.args.members.now c.loop-member.member-index _ _ _ _ c.loop-member-test.true c.loop-member.invariant
    c.in_ok-member_value.ensures c.in_ok-push.ensures.items

pub returns : goal.returns
returns c =
    array-of-all (site_at c.args.labels.now c.args.sites.now) c.args.members.now c.loop-member.member-index c.loop-member.values c.loop-member.invariant (omega (arith, c.loop-member-test.false))
