-- No byte yet; one byte more; and all of them.
use Rattle.std.proofs.Common.{rules, arith}
use Rattle.pmt_text.proofs.LinePutting.{bytes-none, byte-more}
use Rattle.pmt_text.proofs.line_text.put_pairs.Goals as goal

pub loop-left-init : goal.loop-left-init
loop-left-init c = (omega arith, search (rules, bytes-none))

pub loop-left-preserved : goal.loop-left-preserved
loop-left-preserved c =
    let l = c.loop-left in (
      omega arith,
      byte-more c.args.bytes.now c.args.line.now l.line c.put_pair-start.new.line c.args.at l.start c.put_pair-start.result l.left (omega arith) l.invariant.0 l.invariant.1 c.put_pair-start.ensures.puts,
    )
