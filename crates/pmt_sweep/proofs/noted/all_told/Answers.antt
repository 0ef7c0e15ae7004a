use Rattle.std.proofs.Common.{◌∙◌, arith}
use Rattle.std.proofs.lemmas.List.{take_all}
use Rattle.pmt_sweep.proofs.NotedLemmas.{told-next}
use Rattle.pmt_sweep.proofs.noted.all_told.Goals as goal

pub loop-index-preserved : goal.loop-index-preserved
loop-index-preserved c = told-next c.args.list.now c.loop-index.findings.items c.push.new.self.items c.loop-index.index _ _ c.loop-index-test.true c.loop-index.invariant c.in_ok-push.ensures.items (c.finding.ensures ∙ c.index-list-index.is)

pub returns : goal.returns
returns c = c.loop-index.invariant ∙ take_all c.loop-index.index c.args.list.now (omega (arith, c.loop-index-test.false))

pub returns-in_err-push : goal.returns-in_err-push
returns-in_err-push c = grind arith
