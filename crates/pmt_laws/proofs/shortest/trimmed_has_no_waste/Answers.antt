use Rattle.pmt_laws.proofs.shortest.trimmed_has_no_waste.Goals as goal
use Rattle.pmt_laws.proofs.NoWaste.{no_waste}

pub returns : goal.returns
returns c = no_waste
