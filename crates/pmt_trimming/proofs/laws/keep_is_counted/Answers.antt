-- Proved in CountingLemmas.
use Rattle.pmt_trimming.proofs.CountingLemmas.{keep-is-counted}
use Rattle.pmt_trimming.proofs.laws.keep_is_counted.Goals as goal

pub returns : goal.returns
returns c = keep-is-counted
