-- No selection with the same counts of persisted stores at every place is shorter than the kept one.
use Rattle.pmt_laws.specs.ModelLaws.{KeepIsShortest}
use Rattle.pmt_laws.proofs.Pigeonhole.{pigeonhole}
use Rattle.pmt_laws.proofs.ShortestPairs.{IsPartner, partners-differ, kept-partner}

pub keep_shortest : KeepIsShortest
keep_shortest T K S keep selection same =
    pigeonhole (IsPartner T) 0 K S keep.rising (λ k has. kept-partner T S k selection same ((keep.just k).0 has)) (λ j k s. partners-differ T j k s)
