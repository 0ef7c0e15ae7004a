use Rattle.pmt_fates.specs.Fates.{AreSavers}
use Rattle.pmt_fates.proofs.saved_before.savers_of.Given as goal

abbrev pub invariant-loop-index : goal.invariant-loop-index
invariant-loop-index l = AreSavers l.trace l.index l.savers.items
