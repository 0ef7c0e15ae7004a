use Rattle.pmt_trimming.proofs.LengthLemmas.{event-length}
use Rattle.pmt_trimming.proofs.line_len.line_len.Goals as goal

pub returns : goal.returns
returns c = event-length c.args.event.now c.op_len.result c.decimal_len.result c.op_len.ensures.value c.decimal_len.ensures.value
