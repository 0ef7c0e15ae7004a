use Rattle.std.proofs.Math.Facts.{Fits-lt-pow}
use Rattle.pmt_failures.proofs.WrittenLemmas.{none-within, some-within}
use Rattle.pmt_failures.proofs.written.is_any_set.Goals as goal

pub returns-clause-yes : goal.returns-clause-yes
returns-clause-yes c = λ some. some-within c.args.bits c.bits_between.result c.args.low c.args.high (Fits-lt-pow c.ranges.bits) c.bits_between.ensures some

pub returns-clause-no : goal.returns-clause-no
returns-clause-no c = λ none. none-within c.args.bits c.bits_between.result c.args.low c.args.high c.bits_between.ensures none
