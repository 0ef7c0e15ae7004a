use Rattle.std.proofs.Common.{refl}
use Rattle.pmt_explain.proofs.FollowingLemmas.{ahead-start}
use Rattle.pmt_explain.proofs.ahead.Ahead.new.Goals as goal

pub returns : goal.returns
returns c = λ T past. ahead-start T _ past refl c.new.ensures
