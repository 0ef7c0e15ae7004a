use Rattle.pmt_text.proofs.EventLemmas.{failed-header, cut-header}
use Rattle.pmt_text.proofs.WithinLemmas.{read-within}
use Rattle.pmt_text.proofs.text_events.read_header.Goals as goal

pub returns-in-Ok-End-clause-taken : goal.returns-in-Ok-End-clause-taken
returns-in-Ok-End-clause-taken g c =
    let finds = rw c.in-Ok-End.field-0-is at c.in-Ok-End.ensures.found in
    rw c.fault.ensures (cut-header g.R.Read.remaining c.args.lines.now c.find_line.new.self finds)

pub returns-in-Err-clause-taken : goal.returns-in-Err-clause-taken
returns-in-Err-clause-taken g c = failed-header g.R.Read.remaining c.args.lines.now c.find_line.new.self c.in-Err.e c.in-Err.ensures.found

pub returns-in-Ok-End-clause-within : goal.returns-in-Ok-End-clause-within
returns-in-Ok-End-clause-within g c = λ first read. read-within first _ _ (c.in-Ok-End.ensures.within first read)
