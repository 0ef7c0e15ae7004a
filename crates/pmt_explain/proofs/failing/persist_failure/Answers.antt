use Rattle.pmt_explain.proofs.FailingLemmas.{persist-none, persist-some}
use Rattle.pmt_explain.proofs.failing.persist_failure.Goals as goal

pub returns-in-None : goal.returns-in-None
returns-in-None c = persist-none c.args.trace.now c.args.number c.args.range (c.in-None.ensures c.args.number c.requires.writers)

pub returns-in-Some : goal.returns-in-Some
returns-in-Some c = persist-some c.args.trace.now c.args.number c.args.range c.in-Some.lost (c.in-Some.ensures c.args.number c.requires.writers)
