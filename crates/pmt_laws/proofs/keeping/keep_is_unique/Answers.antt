use Rattle.pmt_laws.proofs.KeepLemmas.{keep_is_unique}
use Rattle.pmt_laws.proofs.keeping.keep_is_unique.Goals as goal

pub returns : goal.returns
returns c = keep_is_unique
