use Rattle.pmt_sweep.proofs.JudgedLemmas.{persist_by_bytes}
use Rattle.pmt_sweep.proofs.judged.persist_by_bytes.Goals as goal

pub returns : goal.returns
returns c = persist_by_bytes
