use Rattle.std.proofs.lemmas.List.{get_or-replicate}
use Rattle.pmt_explain.proofs.upcoming.NextFences.new.Goals as goal

pub returns : goal.returns
returns c = λ t small. get_or-replicate 256 t c.args.number 0 small
