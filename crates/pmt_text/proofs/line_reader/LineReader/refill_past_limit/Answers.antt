use Rattle.std.proofs.Common.{arith}
use Rattle.pmt_text.specs.Lines.{unread}
use Rattle.pmt_text.proofs.WithinLemmas.{read-over}
use Rattle.pmt_text.proofs.line_reader.LineReader.refill_past_limit.Goals as goal

pub returns-in-Ok-clause-within : goal.returns-in-Ok-clause-within
returns-in-Ok-clause-within g c = λ first read.
    let h = c.in-Ok.ensures in
    read-over first _ _ read _ (unread c.refill.new.self) (omega (arith, h.len, h.most)) h.bytes
