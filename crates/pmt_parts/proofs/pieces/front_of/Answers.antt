use Rattle.std.proofs.Common.{arith}
use Rattle.pmt_parts.proofs.PieceLemmas.{count-line, count-other, front-full}
use Rattle.pmt_parts.proofs.pieces.front_of.Goals as goal

pub returns-then-lines-most-clause-front : goal.returns-then-lines-most-clause-front
returns-then-lines-most-clause-front c =
    let l = c.loop-index in
    front-full c.args.bytes.now l.index l.lines c.args.most c.loop-index-test.true c.if-bytes-index-eq10.true l.invariant.0 c.if-lines-most.true

pub loop-index-preserved : goal.loop-index-preserved
loop-index-preserved c =
    let l = c.loop-index in
    let bytes = c.args.bytes.now in
    elim c.if-bytes-index-eq10.branch [
      | goal.then-bytes-index-eq10+else-lines-most w ↦
          let more = count-line bytes l.index c.loop-index-test.true w.if-bytes-index-eq10.true in
          (omega (arith, more, l.invariant.0, w.lines-is), omega (arith, l.invariant.1, w.lines-is, w.if-lines-most.false))
      | goal.else-bytes-index-eq10 w ↦
          let same = count-other bytes l.index c.loop-index-test.true w.if-bytes-index-eq10.false in
          (omega (arith, same, l.invariant.0, w.lines-is), omega (arith, l.invariant.1, w.lines-is))
    ]
