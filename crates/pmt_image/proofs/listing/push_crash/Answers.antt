use Rattle.std.proofs.Common.{rules, append_assoc}
use Rattle.pmt_image.proofs.listing.push_crash.Goals as goal

pub returns : goal.returns
returns c = search (rules, append_assoc)
