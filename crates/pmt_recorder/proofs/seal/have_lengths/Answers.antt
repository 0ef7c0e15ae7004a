use Rattle.std.proofs.Common.{below_more}
use Rattle.pmt_recorder.proofs.seal.have_lengths.Goals as goal

pub loop-thread-preserved : goal.loop-thread-preserved
loop-thread-preserved g c = below_more _ _ c.loop-thread.invariant (c.has_length.ensures c.if-not-has_length.false)
