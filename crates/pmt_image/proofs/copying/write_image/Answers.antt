use Rattle.pmt_image.proofs.Prelude.{arith, elements}
use Rattle.pmt_image.proofs.CopyLemmas.{image-written, image-refused, refused-counts, image-reads, image-writes}
use Rattle.pmt_image.proofs.copying.write_image.Goals as goal

pub returns-clause-image : goal.returns-clause-image
returns-clause-image g c =
    image-written c.args.trace.now c.args.crash.now c.args.pool c.in-Ok.stores.items c.as_slice.result.now _ _ _ _ c.copy_pool-done.result c.copied.result c.copied.ensures c.as_slice.ensures.value c.in-Ok.ensures.inside c.in-Ok.ensures.image
    c.copy_pool-done.ensures.copied

pub returns-clause-read_failures : goal.returns-clause-read_failures
returns-clause-read_failures g c = omega (arith, c.copy_pool-done.ensures.read_failures, image-reads c.copy_pool-done.result c.copied.result c.copied.ensures)

pub returns-clause-write_failures : goal.returns-clause-write_failures
returns-clause-write_failures g c = omega (arith, c.copy_pool-done.ensures.write_failures, image-writes c.copy_pool-done.result c.copied.result c.copied.ensures)

pub returns-in-Err-clause-image : goal.returns-in-Err-clause-image
returns-in-Err-clause-image g c = image-refused c.args.trace.now c.args.crash.now c.args.pool _ _ c.in-Err.fault c.refusal.result c.refusal.ensures c.in-Err.ensures.fault

pub returns-in-Err-clause-read_failures : goal.returns-in-Err-clause-read_failures
returns-in-Err-clause-read_failures g c = (refused-counts _ c.in-Err.fault c.refusal.result c.refusal.ensures).0

pub returns-in-Err-clause-write_failures : goal.returns-in-Err-clause-write_failures
returns-in-Err-clause-write_failures g c = (refused-counts _ c.in-Err.fault c.refusal.result c.refusal.ensures).1

pub persisted_stores-requires : goal.persisted_stores-requires
persisted_stores-requires g c = omega arith

pub returns-in_err-buffer-clause-image : goal.returns-in_err-buffer-clause-image
returns-in_err-buffer-clause-image g c = grind (arith, elements)

pub returns-in_err-buffer-clause-read_failures : goal.returns-in_err-buffer-clause-read_failures
returns-in_err-buffer-clause-read_failures g c = grind (arith, elements)

pub returns-in_err-buffer-clause-write_failures : goal.returns-in_err-buffer-clause-write_failures
returns-in_err-buffer-clause-write_failures g c = grind (arith, elements)

pub copy_pool-done-requires-clause-pool : goal.copy_pool-done-requires-clause-pool
copy_pool-done-requires-clause-pool g c = omega arith

pub copy_pool-done-requires-clause-room : goal.copy_pool-done-requires-clause-room
copy_pool-done-requires-clause-room g c = grind (arith, elements)

pub copy_pool-done-requires-clause-reads : goal.copy_pool-done-requires-clause-reads
copy_pool-done-requires-clause-reads g c = omega arith

pub copy_pool-done-requires-clause-writes : goal.copy_pool-done-requires-clause-writes
copy_pool-done-requires-clause-writes g c = grind (arith, elements)
