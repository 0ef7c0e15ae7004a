use Rattle.std.proofs.Common.{ap, ◌∙◌}
use Rattle.std.specs.Map.{keys_of}
use Rattle.pmt_explain.proofs.CountingLemmas.{keys-inserted}
use Rattle.pmt_explain.proofs.lines.count.Goals as goal

pub returns-in-Ok-clause-lines : goal.returns-in-Ok-clause-lines
returns-in-Ok-clause-lines c = ap keys_of c.in-Ok.ensures.entries ∙ keys-inserted c.args.line _ c.args.counts.now.entries
