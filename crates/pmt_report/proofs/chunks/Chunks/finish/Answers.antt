use Rattle.pmt_report.proofs.ChunkLemmas.{all-written, flush-fails}
use Rattle.pmt_report.proofs.chunks.Chunks.finish.Goals as goal

pub returns-in-Ok-clause-written : goal.returns-in-Ok-clause-written
returns-in-Ok-clause-written g c = λ before text put.
    all-written before _ _ text c.write_out.new.self (c.in_ok-write_out.ensures.put before text put) c.in_ok-write_out.ensures.none c.flush.ensures.bytes

pub returns-clause-written : goal.returns-clause-written
returns-clause-written g c = λ before text put.
    flush-fails before _ _ text c.write_out.new.self (c.in_ok-write_out.ensures.put before text put) c.in_ok-write_out.ensures.none c.flush.ensures.bytes
