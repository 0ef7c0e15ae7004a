use Rattle.std.proofs.Common.{arith}
use Rattle.pmt_slices.proofs.StoreStoryLemmas.{flush-found, flush-none}
use Rattle.pmt_slices.proofs.store_story.StoreStory.flush.Goals as goal

pub returns-then-self : goal.returns-then-self
returns-then-self c = λ T n is. flush-found T n c.args.self.now is c.if-self.true

pub returns-else-self : goal.returns-else-self
returns-else-self c = λ T n is. flush-none T n c.args.self.now is (omega (arith, c.if-self.false))
