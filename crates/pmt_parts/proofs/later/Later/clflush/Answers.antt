use Rattle.std.proofs.Common.{refl}
use Rattle.pmt_parts.proofs.LaterLemmas.{later-clflush}
use Rattle.pmt_parts.proofs.later.Later.clflush.Goals as goal

pub returns : goal.returns
returns c = λ T m n is by old. later-clflush T m n c.args.line c.args.self.now _ is by refl c.in_ok-insert.ensures.updates.0 refl old
