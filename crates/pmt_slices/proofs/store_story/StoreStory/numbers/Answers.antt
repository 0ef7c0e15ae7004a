use Rattle.std.proofs.Common.{rules}
use Rattle.pmt_slices.proofs.store_story.StoreStory.numbers.Goals as goal

pub returns : goal.returns
returns c = search rules
