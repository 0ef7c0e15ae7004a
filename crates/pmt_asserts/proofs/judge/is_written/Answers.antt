use Rattle.pmt_asserts.specs.Tables.{IsUnwritten, EachIn}
use Rattle.pmt_asserts.proofs.LineLemmas.{below-none}
use Rattle.pmt_asserts.proofs.judge.is_written.Goals as goal

pub loop-line-init : goal.loop-line-init
loop-line-init c = λ T k. below-none c.lines_of-first.result.0 (λ line. EachIn T line c.args.range (IsUnwritten T c.args.number))
