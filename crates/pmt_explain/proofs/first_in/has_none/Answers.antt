use Rattle.std.proofs.Common.{◌≡◌, not, true, subst, arith}
use Rattle.std.proofs.lemmas.Bool.{false≢true}
use Rattle.pmt_tables.specs.Lasts.{last_at}
use Rattle.pmt_explain.specs.Crashes.{Wants}
use Rattle.pmt_explain.proofs.first_in.has_none.Goals as goal

pub returns-then-oldest-newest : goal.returns-then-oldest-newest
returns-then-oldest-newest c = λ none k from to some wants.
    let least = c.oldest-oldest.ensures.least k from to some in
    let same : last_at c.args.words.now c.args.index k ≡ c.oldest-oldest.result = omega (arith, least.1, c.newest-newest.ensures.greatest k from to, c.if-oldest-newest.true) in
    let is : c.is_wanted.result ≡ true = c.is_wanted.ensures.1 (subst (Wants c.args.search.now.trace.now c.args.search.now.wanted) same wants) in
    absurd (false≢true (subst (λ b. not b ≡ true) is none))
