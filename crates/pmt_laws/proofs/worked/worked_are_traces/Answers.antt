use Rattle.pmt_laws.proofs.WorkedTraces.{worked_are_traces}
use Rattle.pmt_laws.proofs.worked.worked_are_traces.Goals as goal

pub returns : goal.returns
returns c = worked_are_traces
