use Rattle.pmt_fates.proofs.Prelude.{length, Recording, AreSavers, IsLastBefore}
use Rattle.pmt_fates.proofs.SaverLemmas.{AreLastSoFar}
use Rattle.pmt_fates.proofs.saved_before.last_of.Given as goal

abbrev pub invariant-loop-saver : goal.invariant-loop-saver
invariant-loop-saver l = (T : Recording) → AreSavers T (length T.events) l.savers → IsLastBefore T l.saver-index l.last × AreLastSoFar T l.saver-index l.list.items
