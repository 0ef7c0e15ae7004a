use Rattle.std.proofs.Common.{rules, arith}
use Rattle.pmt_parts.proofs.part.Part.new.Goals as goal

pub returns-clause-part : goal.returns-clause-part
returns-clause-part c = grind arith

pub returns-clause-start : goal.returns-clause-start
returns-clause-start c = search rules
