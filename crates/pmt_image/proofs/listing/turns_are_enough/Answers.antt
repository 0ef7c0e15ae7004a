use Rattle.pmt_image.proofs.ListingLemmas.{have-all}
use Rattle.pmt_image.proofs.listing.turns_are_enough.Goals as goal

pub returns : goal.returns
returns c = λ T. have-all T
