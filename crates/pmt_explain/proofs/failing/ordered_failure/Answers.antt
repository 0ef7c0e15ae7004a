use Rattle.pmt_explain.proofs.FailingLemmas.{ordered-found}
use Rattle.pmt_explain.proofs.failing.ordered_failure.Goals as goal

pub returns : goal.returns
returns c = ordered-found c.args.trace.now c.args.number c.args.first c.args.second c.first_kept.result c.first_kept.ensures
