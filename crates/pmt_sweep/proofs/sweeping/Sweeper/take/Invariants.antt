use Rattle.std.proofs.Common.{◌+◌, length}
use Rattle.pmt_laws.specs.Prelude.{Recording, IsTrace, with_events}
use Rattle.pmt_sweep.specs.Passing.{HasSwept, IsPassOf}
use Rattle.pmt_sweep.proofs.sweeping.Sweeper.take.Given as goal

abbrev pub invariant-loop-index : goal.invariant-loop-index
invariant-loop-index l = (T : Recording) → HasSwept T l.fn.self → IsTrace (with_events T l.events) → IsPassOf (with_events T l.events) (length T.events + l.index) l.self
