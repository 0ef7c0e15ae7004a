use Rattle.pmt_fates.proofs.Prelude.{take, IsTally}
use Rattle.pmt_fates.proofs.figures.figures_of.Given as goal

abbrev pub invariant-loop-event : goal.invariant-loop-event
invariant-loop-event l = IsTally (take l.event-index l.events) l.all l.threads l.waits l.fences
