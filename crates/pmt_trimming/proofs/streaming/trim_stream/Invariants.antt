use Rattle.std.proofs.Common.{ℕ, List, Option}
use Rattle.pmt_text.specs.Counting.{failure_count, inner_device}
use Rattle.pmt_trimming.proofs.FlowEnds.{Flow}
use Rattle.pmt_trimming.proofs.streaming.trim_stream.Given as goal

abbrev pub invariant-take : goal.invariant-take
invariant-take g l =
    record {
      flow :
          Flow (g.S.EventSource.coming l.fn.source) (g.S.EventSource.coming l.source) (g.S.EventSource.state l.fn.source) (g.S.EventSource.state l.source) (g.S.EventSource.known_format l.source) (g.S.EventSource.given l.fn.source) (g.S.EventSource.given l.source)
          (g.S.EventSource.failures l.fn.source) (g.S.EventSource.failures l.source) (g.S.EventSource.room l.source) (g.W.Write.contents (inner_device l.fn.out)) (g.W.Write.contents (inner_device l.out))
          (failure_count l.fn.out) (failure_count l.out) l.stream l.written;
      within : (first : Option (List ℕ)) → g.S.EventSource.within l.fn.source first → g.S.EventSource.within l.source first;
    }

abbrev pub decreases-take : goal.decreases-take
decreases-take g l = g.S.EventSource.room l.source
