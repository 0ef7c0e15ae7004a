use Rattle.pmt_hints.specs.Leaving.{AreEnds}
use Rattle.pmt_hints.proofs.stored_after.last_fences.Given as goal

abbrev pub invariant-loop-index : goal.invariant-loop-index
invariant-loop-index l = AreEnds l.waited l.places l.fences l.flushes l.index l.ends.items
