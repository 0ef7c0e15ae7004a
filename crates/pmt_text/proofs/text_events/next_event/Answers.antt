use Rattle.std.proofs.Common.{sym}
use Rattle.pmt_text.proofs.EventLemmas.{failed-events, ended-events, cut-events}
use Rattle.pmt_text.proofs.WithinLemmas.{read-within}
use Rattle.pmt_text.proofs.text_events.next_event.Goals as goal

pub returns-then-is_empty-clause-taken : goal.returns-then-is_empty-clause-taken
returns-then-is_empty-clause-taken g c =
    let finds = rw c.in-Ok-End.field-0-is at c.in-Ok-End.ensures.found in
    ended-events g.R.Read.remaining c.args.lines.now c.find_line.new.self finds c.args.format c.args.given (sym c.if-is_empty.ensures)

pub returns-else-is_empty-clause-taken : goal.returns-else-is_empty-clause-taken
returns-else-is_empty-clause-taken g c =
    let finds = rw c.in-Ok-End.field-0-is at c.in-Ok-End.ensures.found in
    rw c.fault.ensures (cut-events g.R.Read.remaining c.args.lines.now c.find_line.new.self finds c.args.format c.args.given (sym c.if-is_empty.ensures))

pub returns-in-Err-clause-taken : goal.returns-in-Err-clause-taken
returns-in-Err-clause-taken g c = failed-events g.R.Read.remaining c.args.lines.now c.find_line.new.self c.args.format c.args.given c.in-Err.e c.in-Err.ensures.found

pub returns-else-is_empty-clause-within : goal.returns-else-is_empty-clause-within
returns-else-is_empty-clause-within g c = λ first read. read-within first _ _ (c.in-Ok-End.ensures.within first read)
