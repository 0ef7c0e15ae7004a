use Rattle.std.proofs.Common.{arith}
use Rattle.pmt_recorder.proofs.PlaceLemmas.{place-found}
use Rattle.pmt_recorder.proofs.seal.place_of.Goals as goal

pub returns-then-thread : goal.returns-then-thread
returns-then-thread g c =
    place-found c.args.thread c.loop-place.place c.args.tapes.now c.index-tapes-place.result (omega arith) c.index-tapes-place.is (omega (arith, c.thread.ensures.value)) c.loop-place.invariant.1
