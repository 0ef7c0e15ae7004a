-- The op of the line is added.
use Rattle.std.proofs.Common.{sym, arith}
use Rattle.pmt_text.proofs.text.push_op.Goals as goal

pub returns-in-Ok-push : goal.returns-in-Ok-push
returns-in-Ok-push c = (c.in-Ok.op, sym c.in-Ok.ensures, omega (arith, c.args.ops.now.ok.0), c.in-Ok-push.ensures.items)
