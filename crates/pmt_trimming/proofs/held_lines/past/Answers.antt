use Rattle.pmt_trimming.proofs.HeldLemmas.{run-kept, rest-moved}
use Rattle.pmt_trimming.proofs.held_lines.past.Goals as goal

pub returns-then-kept-clause-text : goal.returns-then-kept-clause-text
returns-then-kept-clause-text c = rw c.if-kept.true (run-kept c.args.run.end c.args.run.from c.args.run.at c.args.len c.args.bytes.now.items c.requires.run.whole)

pub returns-clause-rest : goal.returns-clause-rest
returns-clause-rest c = rest-moved c.args.run.from c.args.run.at c.args.len c.args.bytes.now.items _ c.requires.run.whole c.move_down.ensures.rest
