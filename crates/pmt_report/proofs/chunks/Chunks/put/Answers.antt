use Rattle.pmt_report.proofs.ChunkLemmas.{no-room, written-within}
use Rattle.pmt_report.proofs.chunks.Chunks.put.Goals as goal

pub returns-in-Err-clause-put : goal.returns-in-Err-clause-put
returns-in-Err-clause-put g c = λ before text put. written-within before _ text c.args.line.now c.in-Err.fault (c.in-Err.ensures.put before text put)

pub returns-in-Err-extend_from_slice-clause-put : goal.returns-in-Err-extend_from_slice-clause-put
returns-in-Err-extend_from_slice-clause-put g c = λ before text put.
    no-room c.make_room.new.self c.args.line.now ((c.in_default.ensures.put before text put).room) c.in_default.ensures.room c.in-Err-extend_from_slice.ensures.full
