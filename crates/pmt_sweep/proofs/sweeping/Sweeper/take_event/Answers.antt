use Rattle.std.proofs.Common.{arith}
use Rattle.std.proofs.lemmas.Grind.{elements}
use Rattle.pmt_sweep.proofs.sweeping.Sweeper.take_event.Goals as goal

pub take_store-requires : goal.take_store-requires
take_store-requires c = grind (arith, elements)

pub take_clflush-requires : goal.take_clflush-requires
take_clflush-requires c = grind (arith, elements)

pub take_assertion-requires : goal.take_assertion-requires
take_assertion-requires c = grind (arith, elements)

pub take_fence-requires : goal.take_fence-requires
take_fence-requires c = grind (arith, elements)

pub take_flush-requires : goal.take_flush-requires
take_flush-requires c = grind (arith, elements)
