use Rattle.std.proofs.Common.{rules}
use Rattle.pmt_image.proofs.CopyLemmas.{refused-why}
use Rattle.pmt_image.proofs.copying.check_pool.Goals as goal

pub returns-in-Err-clause-fault : goal.returns-in-Err-clause-fault
returns-in-Err-clause-fault c = refused-why c.args.trace.now c.args.crash.now.place c.args.pool c.in-Err.fault c.refusal.result c.refusal.ensures c.in-Err.ensures.fault

pub returns-in-Ok-clause-fault : goal.returns-in-Ok-clause-fault
returns-in-Ok-clause-fault c = search rules
