use Rattle.pmt_trimming.proofs.StreamLemmas.{out_comes_first}
use Rattle.pmt_trimming.proofs.stream_laws.out_comes_first.Goals as goal

pub returns : goal.returns
returns c = out_comes_first
