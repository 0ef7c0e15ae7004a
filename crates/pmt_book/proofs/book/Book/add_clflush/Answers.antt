use Rattle.std.proofs.Common.{arith, ◌≡◌, sym, ap, ◌∙◌}
use Rattle.std.proofs.lemmas.Grind.{elements}
use Rattle.pmt_laws.specs.Prelude.{Layout, line_of, Clflushes, Clflush}
use Rattle.pmt_book.specs.Live.{event_by, whole_history}
use Rattle.pmt_book.proofs.BookLemmas.{with-placed, keep-event}
use Rattle.pmt_book.proofs.book.Book.add_clflush.Goals as goal

pub invariant_of-self-2 : goal.invariant_of-self-2
invariant_of-self-2 c =
    let T = c.self.inside.trace in
    let h = whole_history T in
    let line = c.line_of-line.result in
    let placed = c.slot_of.new.self in
    let at : line ≡ line_of T.format c.args.addr = c.line_of-line.ensures ∙ ap (λ (f : Layout). line_of f c.args.addr) c.format.ensures.value in
    keep-event T (event_by c.args.thread (Clflush c.args.addr)) (Clflushes line) c.push.new.trace placed.rows.slots c.clflush.new.self c.in_ok-push.ensures.ok (ap Clflushes (sym at))
    (c.clflush.ensures placed.rows.slots h line c.in_ok-slot.ensures.here (with-placed _ h placed (c.in_ok-slot.ensures.live c.self.inside.lines.rows.slots h c.self.invariant)))

pub line_of-line-requires : goal.line_of-line-requires
line_of-line-requires c = omega arith

pub invariant_of-self : goal.invariant_of-self
invariant_of-self c = grind (arith, elements)

pub returns-in_err-slot-clause-ok : goal.returns-in_err-slot-clause-ok
returns-in_err-slot-clause-ok c = grind arith

pub returns-in_err-slot-clause-err : goal.returns-in_err-slot-clause-err
returns-in_err-slot-clause-err c = grind arith

pub invariant_of-self-in_err-push : goal.invariant_of-self-in_err-push
invariant_of-self-in_err-push c = grind (arith, elements)

pub returns-in_err-push-clause-ok : goal.returns-in_err-push-clause-ok
returns-in_err-push-clause-ok c = grind arith

pub returns-in_err-push-clause-err : goal.returns-in_err-push-clause-err
returns-in_err-push-clause-err c = grind arith

pub clflush-requires : goal.clflush-requires
clflush-requires c = grind (arith, elements)

pub returns-clause-ok : goal.returns-clause-ok
returns-clause-ok c = grind arith
