use Rattle.std.proofs.Common.{ap, ◌∙◌}
use Rattle.std.specs.Map.{keys_of}
use Rattle.pmt_explain.proofs.CountingLemmas.{keys-inserted}
use Rattle.pmt_image.proofs.open.add_store.Goals as goal

pub returns-in-Ok-clause-lines : goal.returns-in-Ok-clause-lines
returns-in-Ok-clause-lines c = ap keys_of c.in-Ok.ensures.entries ∙ keys-inserted c.args.store.line _ c.args.lines.now.entries
