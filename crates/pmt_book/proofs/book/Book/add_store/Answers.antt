use Rattle.std.proofs.Common.{arith, ◌≡◌, ℕ, sym, ap, ◌∙◌}
use Rattle.std.proofs.lemmas.Grind.{elements}
use Rattle.pmt_laws.specs.Prelude.{Layout, line_of, Stores, Store}
use Rattle.pmt_book.specs.Live.{event_by, whole_history}
use Rattle.pmt_book.proofs.BookLemmas.{with-placed, keep-event}
use Rattle.pmt_book.proofs.book.Book.add_store.Goals as goal

pub invariant_of-self-2 : goal.invariant_of-self-2
invariant_of-self-2 c =
    let T = c.self.inside.trace in
    let h = whole_history T in
    let line = c.line_of-line.result in
    let store = c.args.store in
    let placed = c.slot_of.new.self in
    let at : line ≡ line_of T.format store.addr =
    c.line_of-line.ensures ∙ ap (λ (f : Layout). line_of f c.addr.result) c.format.ensures.value ∙ ap (line_of T.format) c.addr.ensures.value in
    keep-event T (event_by c.args.thread (Store store)) (Stores line store) c.push.new.trace placed.rows.slots c.store.new.self c.in_ok-push.ensures.ok
    (ap (λ (l : ℕ). Stores l store) (sym at))
    (c.store.ensures placed.rows.slots h line store c.in_ok-slot.ensures.here (with-placed _ h placed (c.in_ok-slot.ensures.live c.self.inside.lines.rows.slots h c.self.invariant)))

pub addr-requires : goal.addr-requires
addr-requires c = omega arith

pub invariant_of-self : goal.invariant_of-self
invariant_of-self c = grind arith

pub returns-in_err-slot-clause-ok : goal.returns-in_err-slot-clause-ok
returns-in_err-slot-clause-ok c = grind arith

pub returns-in_err-slot-clause-err : goal.returns-in_err-slot-clause-err
returns-in_err-slot-clause-err c = grind arith

pub push-requires : goal.push-requires
push-requires c = grind arith

pub invariant_of-self-in_err-push : goal.invariant_of-self-in_err-push
invariant_of-self-in_err-push c = grind arith

pub returns-in_err-push-clause-ok : goal.returns-in_err-push-clause-ok
returns-in_err-push-clause-ok c = grind arith

pub store-requires-clause-slot : goal.store-requires-clause-slot
store-requires-clause-slot c = grind (arith, elements)

pub store-requires-clause-room : goal.store-requires-clause-room
store-requires-clause-room c = grind (arith, elements)

pub returns-clause-ok : goal.returns-clause-ok
returns-clause-ok c = grind (arith, elements)

pub returns-clause-err : goal.returns-clause-err
returns-clause-err c = grind arith
