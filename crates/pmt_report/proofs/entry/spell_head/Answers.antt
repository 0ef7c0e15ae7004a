use Rattle.std.proofs.Common.{arith}
use Rattle.pmt_text.proofs.LinePutting.{whole-line}
use Rattle.pmt_report.proofs.NextLemmas.{put-5}
use Rattle.pmt_report.proofs.entry.spell_head.Goals as goal

pub returns-clause-told : goal.returns-clause-told
returns-clause-told c = whole-line (put-5 55 c.put-at.ensures.puts c.put_decimal-at.ensures c.put_word-at.ensures c.put_decimal-at-2.ensures c.put_word.ensures (omega arith)) c.told-line
