use Rattle.pmt_page.proofs.TellingLaws.{columns_tell_events}
use Rattle.pmt_page.proofs.laws.columns_tell_events.Goals as goal

pub returns : goal.returns
returns c = columns_tell_events
