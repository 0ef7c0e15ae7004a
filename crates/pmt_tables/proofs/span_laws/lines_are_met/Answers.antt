use Rattle.pmt_tables.proofs.SpanLemmas.{lines-met}
use Rattle.pmt_tables.proofs.span_laws.lines_are_met.Goals as goal

pub returns : goal.returns
returns c = lines-met
