use Rattle.pmt_part_laws.proofs.PersistLemmas.{part_orders}
use Rattle.pmt_part_laws.proofs.verdicts.part_orders.Goals as goal

pub returns : goal.returns
returns c = part_orders
