use Rattle.pmt_explain.proofs.FirstInLemmas.{block-none}
use Rattle.pmt_explain.proofs.first_in.first_with_block.Goals as goal

pub returns-in-None : goal.returns-in-None
returns-in-None c = λ i knows. block-none c.args.search.now c.requires.search i c.args.writers.now c.args.block knows c.in-None.ensures.found c.args.first
