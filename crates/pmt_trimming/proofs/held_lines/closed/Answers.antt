use Rattle.pmt_trimming.proofs.HeldLemmas.{run-closed, rest-closed, size-closed}
use Rattle.pmt_trimming.proofs.held_lines.closed.Goals as goal

pub returns-clause-text : goal.returns-clause-text
returns-clause-text c = run-closed c.args.run.end c.args.run.from c.args.run.at c.args.bytes.now.items _ c.requires.run.before c.requires.run.whole c.requires.within c.close_gap.ensures

pub returns-clause-rest : goal.returns-clause-rest
returns-clause-rest c = rest-closed c.args.run.end c.args.run.from c.args.run.at c.args.bytes.now.items _ c.requires.run.before c.requires.run.whole c.requires.within c.close_gap.ensures

pub returns-clause-size : goal.returns-clause-size
returns-clause-size c = size-closed c.args.run.end c.args.run.from c.args.run.at c.args.bytes.now.items _ c.requires.run.before c.requires.run.whole c.requires.within c.close_gap.ensures
