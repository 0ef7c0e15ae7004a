-- The event is the one that the lines give.
use Rattle.pmt_text.proofs.text_source.TextSource.next_in.Goals as goal

pub returns-in-Ok-Some-clause-taken : goal.returns-in-Ok-Some-clause-taken
returns-in-Ok-Some-clause-taken g c = rw (c.requires.known, c.requires.open) (rw c.in-Ok-Some.field-0-is at c.in-Ok-Some.ensures.taken)

pub returns-in-Err-clause-taken : goal.returns-in-Err-clause-taken
returns-in-Err-clause-taken g c = rw (c.requires.known, c.requires.open) c.in-Err.ensures.taken

pub returns-in-Ok-Some-clause-lent : goal.returns-in-Ok-Some-clause-lent
returns-in-Ok-Some-clause-lent g c = rw c.in-Ok-Some.field-0-is at c.in-Ok-Some.ensures.lent
