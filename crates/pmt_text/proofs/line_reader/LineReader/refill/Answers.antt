use Rattle.std.proofs.Common.{arith}
use Rattle.std.proofs.lemmas.Grind.{elements}
use Rattle.pmt_text.specs.Lines.{unread}
use Rattle.pmt_text.proofs.WithinLemmas.{read-piece}
use Rattle.pmt_text.proofs.line_reader.LineReader.refill.Goals as goal

pub returns-in-Ok-eq0-clause-piece : goal.returns-in-Ok-eq0-clause-piece
returns-in-Ok-eq0-clause-piece g c = grind (arith, elements)

pub returns-in-Ok-clause-within : goal.returns-in-Ok-clause-within
returns-in-Ok-clause-within g c = λ first read.
    let h = c.in-Ok.ensures in
    read-piece first _ _ read _ _ (unread c.refill.new.self) (omega (arith, h.len, h.most)) h.bytes
