-- Marks of events.
use Rattle.std.specs.Prelude.{Bool, true, false}
use Rattle.pmt_laws.specs.Prelude.{Op, Store, Clwb, ClflushOpt, Clflush, Sfence, Mfence, IsPersist, IsOrderedBefore}

-- A store or an assertion.
abbrev pub op_stays : Op → Bool
op_stays (Store w) = true
op_stays (Clwb a) = false
op_stays (ClflushOpt a) = false
op_stays (Clflush a) = false
op_stays Sfence = false
op_stays Mfence = false
op_stays (IsPersist r) = true
op_stays (IsOrderedBefore r q) = true
