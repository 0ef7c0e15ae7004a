use Rattle.pmt_laws.proofs.KeptTest.{keep_exists}
use Rattle.pmt_laws.proofs.keeping.keep_exists.Goals as goal

pub returns : goal.returns
returns c = keep_exists
