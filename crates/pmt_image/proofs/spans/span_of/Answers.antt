use Rattle.std.proofs.Common.{arith}
use Rattle.pmt_image.proofs.spans.span_of.Goals as goal

pub returns-in_ok-set_count-in-Store-clause-span : goal.returns-in_ok-set_count-in-Store-clause-span
returns-in_ok-set_count-in-Store-clause-span c = grind arith

pub returns-in_ok-set_count-in-Store-clause-stored : goal.returns-in_ok-set_count-in-Store-clause-stored
returns-in_ok-set_count-in-Store-clause-stored c = grind arith
