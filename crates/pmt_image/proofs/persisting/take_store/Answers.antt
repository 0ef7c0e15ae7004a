use Rattle.std.proofs.Common.{rules}
use Rattle.pmt_image.proofs.persisting.take_store.Goals as goal

pub returns-else-before-count_of : goal.returns-else-before-count_of
returns-else-before-count_of c = search rules
