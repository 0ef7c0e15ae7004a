use Rattle.std.proofs.Common.{◌∙◌, ap, arith}
use Rattle.pmt_explain.specs.Numbers.{number_at}
use Rattle.pmt_explain.proofs.FollowingLemmas.{ahead-flush}
use Rattle.pmt_explain.proofs.ahead.Ahead.over_flush.Goals as goal

pub returns-clause-ahead : goal.returns-clause-ahead
returns-clause-ahead c = λ T n is before.
    let a = c.args.self.now in
    ahead-flush T n c.args.thread c.args.line c.in_ok-lower.field-0 a _ (omega arith) is before (c.in_ok-lower.ensures.number ∙ ap (λ p. number_at p a.completed c.args.line) before.past) c.in_ok-lower.ensures.put
