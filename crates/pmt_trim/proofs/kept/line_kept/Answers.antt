use Rattle.std.proofs.Common.{ℕ, List, sym, subst}
use Rattle.pmt_trim.specs.Kept.{IsJobKept}
use Rattle.pmt_trim.proofs.kept.line_kept.Goals as goal

pub returns : goal.returns
returns c = subst (λ (ns : List ℕ). IsJobKept c.args.found.now.job ns) (sym c.reverse.ensures.items) c.in_ok-kept.ensures
