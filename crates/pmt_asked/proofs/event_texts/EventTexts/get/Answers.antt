use Rattle.std.proofs.Common.{arith}
use Rattle.std.proofs.lemmas.Grind.{elements}
use Rattle.pmt_asked.proofs.event_texts.EventTexts.get.Goals as goal

pub get-requires : goal.get-requires
get-requires c κs = grind (arith, elements)

pub returns-in_err-number : goal.returns-in_err-number
returns-in_err-number c = grind (arith, elements)

pub returns-in_err-place : goal.returns-in_err-place
returns-in_err-place c = grind (arith, elements)

pub returns : goal.returns
returns c = grind (arith, elements)
