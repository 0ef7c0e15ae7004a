use Rattle.std.proofs.Common.{rules}
use Rattle.pmt_text.proofs.LinePutting.{put-two}
use Rattle.pmt_text.proofs.line_text.put_pair.Goals as goal

pub returns-clause-puts : goal.returns-clause-puts
returns-clause-puts c = search (rules, put-two)
