use Rattle.std.proofs.Common.{sym}
use Rattle.pmt_asked.proofs.CallerLemmas.{inner-cut, whole}
use Rattle.pmt_asked.proofs.frames.frame_of.Goals as goal

pub returns-in-Some : goal.returns-in-Some
returns-in-Some c = inner-cut c.args.label.now c.in-Some.frame.now c.in-Some.field-0-1.now c.in-Some.ensures.cases

pub returns-in-None : goal.returns-in-None
returns-in-None c = sym (whole c.args.label.now c.in-None.ensures.cases)
