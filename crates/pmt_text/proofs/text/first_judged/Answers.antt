-- The event that stands first is what its line is judged as.
use Rattle.pmt_text.proofs.SpelledReading.{splits-first}
use Rattle.pmt_text.proofs.text.first_judged.Goals as goal

pub returns-in-Some-clause-first : goal.returns-in-Some-clause-first
returns-in-Some-clause-first c = splits-first c.args.format c.in-Some.event c.args.text.now c.in-Some.rest c.in-Some.ensures
