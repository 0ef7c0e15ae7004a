use Rattle.pmt_slices.proofs.StoryLemmas.{story_tells}
use Rattle.pmt_slices.proofs.laws.story_tells.Goals as goal

pub returns : goal.returns
returns c = story_tells
