use Rattle.std.proofs.Common.{◌≡◌, ◌++◌, ◌∙◌, take, sym, ap, Some, None}
use Rattle.pmt_text.specs.Coming.{format_in}
use Rattle.pmt_text.specs.Lines.{unread}
use Rattle.pmt_text.proofs.EventLemmas.{found-header, found-no_header}
use Rattle.pmt_text.proofs.text_events.take_header.Goals as goal

pub returns-in-Some-clause-taken : goal.returns-in-Some-clause-taken
returns-in-Some-clause-taken g c =
    let old = c.args.lines.now in
    let h = c.skip_line.ensures in
    let judged : format_in (old.front.items ++ take c.args.len (unread old.piece)) ≡ Some c.in-Some.format = ap format_in (sym c.line.ensures) ∙ sym c.in-Some.ensures in
    found-header g.R.Read.remaining old c.skip_line.new.self c.args.len c.requires.found h.held h.input h.room c.in-Some.format judged

pub returns-in-None-clause-taken : goal.returns-in-None-clause-taken
returns-in-None-clause-taken g c =
    let old = c.args.lines.now in
    let h = c.skip_line.ensures in
    let judged : format_in (old.front.items ++ take c.args.len (unread old.piece)) ≡ None = ap format_in (sym c.line.ensures) ∙ sym c.in-None.ensures in
    rw c.fault.ensures (found-no_header g.R.Read.remaining old c.skip_line.new.self c.args.len c.requires.found h.held h.input h.room judged)
