use Rattle.std.proofs.Common.{◌∙◌, ap, Option}
use Rattle.std.specs.Prelude.{ℕ, unwrap_or}
use Rattle.pmt_explain.specs.Numbers.{number_in}
use Rattle.pmt_explain.proofs.SavingLemmas.{safe-told}
use Rattle.pmt_explain.proofs.ahead.Ahead.over_store.Goals as goal

pub returns : goal.returns
returns c = λ T n w is before.
    let a = c.args.self.now in
    safe-told T n c.args.line c.unwrap_or.result w a is before
    (c.unwrap_or.ensures ∙ ap (λ (o : Option ℕ). unwrap_or o a.past) c.get.ensures ∙ ap (unwrap_or (number_in a.completed c.args.line)) before.past)
