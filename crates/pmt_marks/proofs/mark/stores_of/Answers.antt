use Rattle.std.proofs.Common.{sym}
use Rattle.pmt_marks.proofs.MarkLemmas.{mark_in-at, mark_in-gap}
use Rattle.pmt_marks.proofs.mark.stores_of.Goals as goal

pub returns-in-Ok : goal.returns-in-Ok
returns-in-Ok c = sym (mark_in-at c.args.thread c.args.marks.now c.in-Ok.place c.requires c.in-Ok.ensures.found)

pub returns-in-Err : goal.returns-in-Err
returns-in-Err c = sym (mark_in-gap c.args.thread c.args.marks.now _ c.in-Err.ensures.absent)
