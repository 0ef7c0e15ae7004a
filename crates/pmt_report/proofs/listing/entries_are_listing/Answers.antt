use Rattle.pmt_report.proofs.ListingLemmas.{entries_are_listing}
use Rattle.pmt_report.proofs.listing.entries_are_listing.Goals as goal

pub returns : goal.returns
returns c = entries_are_listing
