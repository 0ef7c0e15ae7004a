-- Stores that are never persisted, by the fronts.
use Rattle.std.proofs.Common.{◌<◌, length, arith}
use Rattle.pmt_laws.specs.Prelude.{history, count_at, front_at, IsNeverPersisted}
use Rattle.pmt_laws.specs.ModelLaws.{NeverPersistedByFronts}
use Rattle.pmt_laws.proofs.AssertLemmas.{least_end, front-le-persisted}

-- Some run of the whole trace ends without the store exactly if the front of its line stays below its rank.
pub never_persisted_by_fronts : NeverPersistedByFronts
never_persisted_by_fronts T l i w stored = (below, pending)
  where
    below : IsNeverPersisted T l i → front_at T l (length T.events) < count_at T l i
    below n = let f = front-le-persisted (history T (length T.events)) n.end n.ends l in omega (arith, f, n.pending)

    pending : front_at T l (length T.events) < count_at T l i → IsNeverPersisted T l i
    pending p =
        let e = least_end (history T (length T.events)) in
        record { what = w; is_store = stored; end = e.0; ends = e.1; pending = omega (arith, e.2 l, p) }
