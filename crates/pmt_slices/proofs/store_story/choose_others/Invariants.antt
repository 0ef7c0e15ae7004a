use Rattle.pmt_slices.specs.Slices.{Chooses}
use Rattle.pmt_slices.proofs.StoreStoryLemmas.{IsFewBy}
use Rattle.pmt_slices.proofs.store_story.choose_others.Given as goal

abbrev pub invariant-loop-index : goal.invariant-loop-index
invariant-loop-index l = Chooses (IsFewBy l.others l.index) l.initial.chosen l.chosen
