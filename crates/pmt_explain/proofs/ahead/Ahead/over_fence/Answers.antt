use Rattle.std.proofs.Common.{refl, arith}
use Rattle.pmt_explain.proofs.FollowingLemmas.{ahead-fence}
use Rattle.pmt_explain.proofs.ahead.Ahead.over_fence.Goals as goal

pub returns : goal.returns
returns c = λ T n is number before. ahead-fence T n c.args.thread c.args.number c.args.self.now _ (omega arith) is number before refl refl refl
