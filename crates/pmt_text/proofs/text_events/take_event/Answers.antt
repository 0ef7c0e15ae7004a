use Rattle.std.proofs.Common.{◌≡◌, ◌++◌, ◌∙◌, take, sym, ap, Err}
use Rattle.pmt_text.specs.Judging.{line_judged}
use Rattle.pmt_text.specs.Lines.{unread}
use Rattle.pmt_text.proofs.EventLemmas.{found-refused}
use Rattle.pmt_text.proofs.text_events.take_event.Goals as goal

pub returns-in-Err-clause-taken : goal.returns-in-Err-clause-taken
returns-in-Err-clause-taken g c =
    let old = c.args.lines.now in
    let h = c.skip_line.ensures in
    let judged : line_judged c.args.format (old.front.items ++ take c.args.len (unread old.piece)) ≡ Err c.in-Err.kind = ap (line_judged c.args.format) (sym c.line.ensures) ∙ sym c.in-Err.ensures.judged in
    rw c.fault.ensures (found-refused g.R.Read.remaining old c.skip_line.new.self c.args.len c.requires.found h.held h.input h.room c.args.format c.args.given c.in-Err.kind judged)
