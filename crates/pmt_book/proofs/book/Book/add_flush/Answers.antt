use Rattle.std.proofs.Common.{◌≡◌, ◌+◌, suc, length, sym, ap, subst, ◌∙◌, arith}
use Rattle.std.proofs.lemmas.Grind.{elements}
use Rattle.pmt_laws.specs.Prelude.{Layout, line_of, Flushes, Recording, act}
use Rattle.pmt_book.specs.Live.{IsLiveWith, whole_history}
use Rattle.pmt_book.proofs.HistoryLemmas.{length-whole}
use Rattle.pmt_book.proofs.BookLemmas.{with-placed, keep-event}
use Rattle.pmt_book.proofs.book.Book.add_flush.Goals as goal

pub invariant_of-self-in-Ok : goal.invariant_of-self-in-Ok
invariant_of-self-in-Ok c =
    let T = c.self.inside.trace in
    let h = whole_history T in
    let event = c.args.event in
    let line = c.line_of-line.result in
    let placed = c.slot_of.new.self in
    let at : line ≡ line_of T.format c.args.addr = c.line_of-line.ensures ∙ ap (λ (f : Layout). line_of f c.args.addr) c.format.ensures.value in
    let is_act = ap (λ (R : Recording). act R.format event) c.self.view_is ∙ c.requires
    ∙ ap (λ (R : Recording). Flushes event.thread (line_of R.format c.args.addr)) (sym c.self.view_is) ∙ ap (Flushes event.thread) (sym at) in
    let numbered : c.len.result + 1 ≡ suc (length h) = omega (arith, length-whole T, c.len.ensures.value) in
    keep-event T event (Flushes event.thread line) c.push.new.trace placed.rows.slots c.flush.new.self c.in-Ok.ensures.ok is_act
    (c.in_ok-flush.ensures.live placed.rows.slots h line numbered c.in_ok-slot.ensures.here
    (with-placed _ h placed (c.in_ok-slot.ensures.live c.self.inside.lines.rows.slots h c.self.invariant)))

pub invariant_of-self-in-Err : goal.invariant_of-self-in-Err
invariant_of-self-in-Err c =
    let T = c.self.inside.trace in
    let h = whole_history T in
    let line = c.line_of-line.result in
    let placed = c.slot_of.new.self in
    let numbered : c.len.result + 1 ≡ suc (length h) = omega (arith, length-whole T, c.len.ensures.value) in
    let flushed = c.in_ok-flush.ensures.live placed.rows.slots h line numbered c.in_ok-slot.ensures.here
    (with-placed _ h placed (c.in_ok-slot.ensures.live c.self.inside.lines.rows.slots h c.self.invariant)) in
    with-placed placed.rows.slots (whole_history c.push.new.trace) c.take_back.new.self
    (subst (λ (R : Recording). IsLiveWith placed.rows.slots (whole_history R) c.take_back.new.self) (sym c.in-Err.ensures.err) (c.take_back.ensures placed.rows.slots h line flushed))

pub format-requires : goal.format-requires
format-requires c = omega arith

pub invariant_of-self : goal.invariant_of-self
invariant_of-self c = grind arith

pub returns-in_err-slot-clause-ok : goal.returns-in_err-slot-clause-ok
returns-in_err-slot-clause-ok c = grind arith

pub returns-in_err-slot-clause-err : goal.returns-in_err-slot-clause-err
returns-in_err-slot-clause-err c = grind arith

pub len-requires : goal.len-requires
len-requires c = omega arith

pub overflow_cast-number : goal.overflow_cast-number
overflow_cast-number c = grind (arith, elements)

pub overflow_add-number : goal.overflow_add-number
overflow_add-number c = grind arith

pub flush-requires-clause-slot : goal.flush-requires-clause-slot
flush-requires-clause-slot c = grind (arith, elements)

pub flush-requires-clause-small : goal.flush-requires-clause-small
flush-requires-clause-small c = grind (arith, elements)

pub returns-in_err-flush-clause-ok : goal.returns-in_err-flush-clause-ok
returns-in_err-flush-clause-ok c = grind arith

pub returns-in_err-flush-clause-err : goal.returns-in_err-flush-clause-err
returns-in_err-flush-clause-err c = grind arith

pub push-requires : goal.push-requires
push-requires c = grind arith

pub take_back-requires : goal.take_back-requires
take_back-requires c = omega arith

pub returns-in-Ok-clause-ok : goal.returns-in-Ok-clause-ok
returns-in-Ok-clause-ok c = grind (arith, elements)

pub returns-in-Ok-clause-err : goal.returns-in-Ok-clause-err
returns-in-Ok-clause-err c = grind arith

pub returns-in-Err-clause-err : goal.returns-in-Err-clause-err
returns-in-Err-clause-err c = grind arith
