-- LF, and the other parts of the line in front of it.
use Rattle.pmt_text.proofs.LinePutting.{line-put}
use Rattle.pmt_text.proofs.line_text.spell_line.Goals as goal

pub returns : goal.returns
returns c =
    line-put c.args.event.now c.args.line.now c.put-at.new.line c.put_arguments-at.new.line c.put_count-at.new.line c.put_name.new.line c.put-at.result c.put_arguments-at.result c.put_count-at.result c.put_name.result
    c.put-at.ensures.puts c.put_arguments-at.ensures c.put_count-at.ensures c.put_name.ensures
