use Rattle.pmt_image.proofs.Prelude.{◌++◌, reverse, arith, length-append, elements, written_by}
use Rattle.pmt_image.proofs.CopyLemmas.{copied-more, ended-more}
use Rattle.pmt_image.proofs.copying.copy_pool.Goals as goal

pub loop-done-preserved : goal.loop-done-preserved
loop-done-preserved g c =
    let x = c.loop-done.invariant.copied in
    let y = c.in-Ok.ensures.copied in
    record {
      copied = (
        x.0 ++ y.0,
        omega (arith, length-append x.0 y.0, x.1, y.1),
        copied-more (written_by (reverse c.args.stores.now)) c.args.pool.origin c.loop-done.done x.0 y.0 c.in-Ok.count _ _ _ _ _ _ x.1 x.2 y.4,
      );
      within = omega (arith, y.3, c.loop-done-test.true);
      room = omega (arith, c.copy_piece.auto.buffer, c.loop-done.invariant.room);
      reads = omega (arith, c.in-Ok.ensures.read_failures, c.loop-done.invariant.reads);
      writes = omega (arith, c.in-Ok.ensures.write_failures, c.loop-done.invariant.writes);
    }

pub returns-in-Err-clause-copied : goal.returns-in-Err-clause-copied
returns-in-Err-clause-copied g c =
    let x = c.loop-done.invariant.copied in
    let y = c.in-Err.ensures.copied in (
      x.0 ++ y.0,
      omega (arith, length-append x.0 y.0, x.1, y.1, c.loop-done-test.true),
      copied-more (written_by (reverse c.args.stores.now)) c.args.pool.origin c.loop-done.done x.0 y.0 c.in-Err.fault.written _ _ _ _ _ _ x.1 x.2 y.2,
      ended-more c.in-Err.fault.stop c.args.pool.size c.loop-done.done c.in-Err.fault.written x.0 y.0 _ x.1 c.loop-done-test.true y.3,
    )

pub loop-done-init : goal.loop-done-init
loop-done-init g c = grind (arith, elements)

pub overflow_add-done : goal.overflow_add-done
overflow_add-done g c = grind (arith, elements)

pub loop-done-smaller : goal.loop-done-smaller
loop-done-smaller g c = grind (arith, elements)

pub overflow_add-result : goal.overflow_add-result
overflow_add-result g c = grind (arith, elements)

pub returns-in-Err-clause-write_failures : goal.returns-in-Err-clause-write_failures
returns-in-Err-clause-write_failures g c = grind (arith, elements)

pub returns-in-Err-flush-clause-write_failures : goal.returns-in-Err-flush-clause-write_failures
returns-in-Err-flush-clause-write_failures g c = grind (arith, elements)
