use Rattle.pmt_lines.proofs.RisingLemmas.{pushes-next}
use Rattle.pmt_lines.proofs.line_findings.push_overwritten.Goals as goal

pub loop-next-preserved : goal.loop-next-preserved
loop-next-preserved c = pushes-next _ _ _ _ _ _ _ _ c.loop-next.invariant c.in-Some.ensures c.in_ok-push.ensures.items
