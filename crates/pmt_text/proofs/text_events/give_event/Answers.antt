use Rattle.std.proofs.Common.{◌<◌, ◌≤◌, ◌++◌, take, Ok, sym, arith}
use Rattle.pmt_model.specs.Traces.{event_limit}
use Rattle.pmt_text.proofs.EventLemmas.{found-taken, found-late, lends-text, line-is_text}
use Rattle.pmt_text.specs.Lines.{last_line, unread}
use Rattle.pmt_text.specs.JudgedEvents.{allowed_line}
use Rattle.pmt_text.proofs.text_events.give_event.Goals as goal

pub returns-then-given-eq-EVENT_LIMIT-clause-taken : goal.returns-then-given-eq-EVENT_LIMIT-clause-taken
returns-then-given-eq-EVENT_LIMIT-clause-taken g c =
    let h = c.skip_line.ensures in
    let many : event_limit ≤ c.args.given = omega arith in
    rw c.fault.ensures (found-late g.R.Read.remaining c.args.lines.now c.skip_line.new.self c.args.len c.requires.found.found h.held h.input h.room c.args.format c.args.given c.args.event c.requires.found.judged many)

pub returns-clause-taken : goal.returns-clause-taken
returns-clause-taken g c =
    let h = c.skip_line.ensures in
    let few : c.args.given < event_limit = omega (arith, c.requires.few) in
    found-taken g.R.Read.remaining c.args.lines.now c.skip_line.new.self c.args.len c.requires.found.found h.held h.input h.room c.args.format c.args.given c.args.event c.requires.found.judged few

pub returns-clause-in_format : goal.returns-clause-in_format
returns-clause-in_format g c =
    let old = c.args.lines.now in
    allowed_line c.args.format (old.front.items ++ take c.args.len (unread old.piece)) (Ok c.args.event) (sym c.requires.found.judged)

pub returns-clause-lent : goal.returns-clause-lent
returns-clause-lent g c =
    lends-text c.args.event (last_line c.skip_line.new.self) _ c.skip_line.ensures.last (line-is_text c.args.format c.args.event c.args.lines.now c.args.len c.requires.found)
