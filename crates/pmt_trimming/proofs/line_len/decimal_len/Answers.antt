use Rattle.pmt_trimming.proofs.LengthLemmas.{decimal-length}
use Rattle.pmt_trimming.proofs.line_len.decimal_len.Goals as goal

pub returns-clause-value : goal.returns-clause-value
returns-clause-value c = decimal-length c.args.number c.requires
