use Rattle.std.proofs.Common.{rules}
use Rattle.pmt_text.proofs.LinePutting.{put-one}
use Rattle.pmt_text.proofs.line_text.put.Goals as goal

pub returns-clause-puts : goal.returns-clause-puts
returns-clause-puts c = search (rules, put-one)
