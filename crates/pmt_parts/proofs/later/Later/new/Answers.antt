use Rattle.std.proofs.Common.{refl}
use Rattle.pmt_parts.proofs.LaterLemmas.{later-none}
use Rattle.pmt_parts.proofs.later.Later.new.Goals as goal

pub returns : goal.returns
returns c = λ T n. later-none T n _ refl c.new-complete.ensures.empty c.new-waiting.ensures.empty
