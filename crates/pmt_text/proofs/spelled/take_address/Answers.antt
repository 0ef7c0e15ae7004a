-- 0x and the number.
use Rattle.std.proofs.Common.{rules}
use Rattle.pmt_text.specs.Spelling.{address}
use Rattle.pmt_text.proofs.spelled.take_address.Goals as goal

pub returns : goal.returns
unfolding address
returns c = search rules
