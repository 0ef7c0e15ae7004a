use Rattle.pmt_trimming.proofs.QueueLemmas.{texts-pop}
use Rattle.pmt_trimming.proofs.whole_text.pop_one.Goals as goal

pub returns : goal.returns
returns c = λ flags. texts-pop flags c.args.kept _ _ _ _ c.pop.ensures
