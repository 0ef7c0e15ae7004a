use Rattle.pmt_reasons.proofs.PuttingInLaws.{flushed_store_can_be_put_first}
use Rattle.pmt_reasons.proofs.mends.flushed_store_can_be_put_first.Goals as goal

pub returns : goal.returns
returns c = flushed_store_can_be_put_first
