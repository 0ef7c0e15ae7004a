use Rattle.pmt_explain.proofs.FailingLemmas.{keeps-no_store}
use Rattle.pmt_explain.proofs.failing.crash_after.Goals as goal

pub returns-in-None : goal.returns-in-None
returns-in-None c = keeps-no_store c.args.trace.now c.args.number c.args.lost c.args.kept.store c.in-None.ensures
