use Rattle.pmt_explain.proofs.FollowingLemmas.{ahead-clflush}
use Rattle.pmt_explain.proofs.ahead.Ahead.over_clflush.Goals as goal

pub returns-clause-ahead : goal.returns-clause-ahead
returns-clause-ahead c = λ T n is number before. ahead-clflush T n c.args.line c.args.number c.args.self.now _ is number before c.in_ok-replace.ensures.put
