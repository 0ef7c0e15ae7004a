use Rattle.std.proofs.Common.{rules}
use Rattle.pmt_parts.proofs.part.Part.takes.Goals as goal

pub returns-then-is_numbered-clause-taken : goal.returns-then-is_numbered-clause-taken
returns-then-is_numbered-clause-taken c = search rules
