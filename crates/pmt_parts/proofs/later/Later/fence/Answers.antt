use Rattle.std.proofs.Common.{refl, arith}
use Rattle.pmt_parts.proofs.LaterLemmas.{later-fence}
use Rattle.pmt_parts.proofs.later.Later.fence.Goals as goal

pub returns : goal.returns
returns c = λ T m n is by old. later-fence T m n c.args.thread c.args.self.now _ is by (omega arith) refl refl refl old
