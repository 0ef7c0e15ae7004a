use Rattle.std.proofs.Common.{subst}
use Rattle.std.proofs.lemmas.Bool.{false≢true}
use Rattle.pmt_explain.specs.Crashes.{Wants}
use Rattle.pmt_explain.proofs.wanted.is_wanted.Goals as goal

pub returns-in-None : goal.returns-in-None
returns-in-None c =
    (λ e. absurd (false≢true e), λ wants. let s = subst (λ v. Wants c.args.trace.now v c.args.store) c.in-Off.is wants in absurd (c.in-None.ensures s.line s.what s.is_store))
