use Rattle.pmt_slices.proofs.Prelude.{◌≤◌, Chooses}
use Rattle.pmt_slices.proofs.StoreStoryLemmas.{IsOtherBy, NoStop}
use Rattle.pmt_slices.proofs.store_story.choose_all.Given as goal

abbrev pub invariant-loop-index : goal.invariant-loop-index
invariant-loop-index l = record {
  low : l.number ≤ l.index;
  none : NoStop l.trace l.thread l.line l.number l.index;
  chosen : Chooses (IsOtherBy l.trace l.thread l.line l.number l.index) l.initial.chosen l.chosen;
}
