use Rattle.std.proofs.Common.{arith}
use Rattle.std.proofs.lemmas.Grind.{elements}
-- The state was Open.
use Rattle.pmt_text.proofs.text_source.TextSourceEventSource.next.Goals as goal

pub returns-clause-told : goal.returns-clause-told
returns-clause-told g c = rw c.in-Open.is c.next_in.ensures.told

pub returns-clause-taken : goal.returns-clause-taken
returns-clause-taken c = grind (arith, elements)

pub returns-clause-in_format : goal.returns-clause-in_format
returns-clause-in_format c = grind (arith, elements)

pub returns-clause-later_line : goal.returns-clause-later_line
returns-clause-later_line c = grind (arith, elements)

pub returns-clause-given : goal.returns-clause-given
returns-clause-given c = grind (arith, elements)

pub returns-clause-room : goal.returns-clause-room
returns-clause-room c = grind (arith, elements)
