-- What stands in the buffer from there on is the line.
use Rattle.std.proofs.Common.{rules}
use Rattle.std.proofs.lemmas.List.{take_rest}
use Rattle.pmt_text.proofs.LinePutting.{whole-line}
use Rattle.pmt_text.proofs.write.spell_event.Goals as goal

pub returns-clause-value : goal.returns-clause-value
returns-clause-value c = rw (← whole-line c.spell_line-at.ensures (search rules)) (search (rules, take_rest))
