use Rattle.std.proofs.Common.{arith}
use Rattle.std.proofs.lemmas.Result.{IfOk-weaker}
use Rattle.pmt_causes.proofs.FenceLemmas.{noted-in, fence-op}
use Rattle.pmt_causes.proofs.late.note_fence.Goals as goal

pub returns-in-Sfence : goal.returns-in-Sfence
returns-in-Sfence c =
    IfOk-weaker c.push_fence.result _ _ (λ v more. noted-in (λ list. list.items) c.args.fences.now.items c.args.thread c.args.number c.args.op c.index_mut.result.now c.push_fence.new.fences
    (omega (arith, c.requires, c.ranges.thread.fits)) c.index_mut.ensures.value more (fence-op c.args.op c.in-Sfence.is)) c.push_fence.ensures
