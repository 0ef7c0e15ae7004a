use Rattle.std.proofs.Common.{arith}
use Rattle.std.proofs.lemmas.Grind.{elements}
use Rattle.pmt_causes.proofs.labels.label_of.Goals as goal

pub returns-in_err-index : goal.returns-in_err-index
returns-in_err-index c = grind (arith, elements)

pub get-requires : goal.get-requires
get-requires c = grind (arith, elements)

pub returns-in_err-copied : goal.returns-in_err-copied
returns-in_err-copied c = grind (arith, elements)

pub returns : goal.returns
returns c = grind (arith, elements)
