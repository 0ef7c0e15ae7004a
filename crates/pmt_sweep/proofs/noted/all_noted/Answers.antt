use Rattle.std.proofs.Common.{◌∙◌, arith}
use Rattle.std.proofs.lemmas.List.{take_all}
use Rattle.pmt_sweep.proofs.NotedLemmas.{list-next}
use Rattle.pmt_sweep.proofs.noted.all_noted.Goals as goal

pub loop-index-preserved : goal.loop-index-preserved
loop-index-preserved c = list-next c.args.findings.now c.loop-index.list.items c.note.new.list.items c.loop-index.index _ c.loop-index-test.true c.loop-index.invariant c.in_ok-note.ensures

pub returns : goal.returns
returns c = c.loop-index.invariant ∙ take_all c.loop-index.index c.args.findings.now (omega (arith, c.loop-index-test.false))
