use Rattle.std.proofs.Common.{◌≡◌, ◌∷◌, sym, subst, ap, ◌∙◌, arith, rules}
use Rattle.pmt_laws.specs.Prelude.{Act, Stores, Flushes, Clflushes, line_of, act, act_of, lines_of, with_line}
use Rattle.pmt_book.specs.Live.{IsLive}
use Rattle.pmt_book.proofs.LiveLemmas.{has-slot, slot-in}
use Rattle.pmt_report.proofs.first_lines.tell.Goals as goal

pub returns-in_ok-slot-in-Store : goal.returns-in_ok-slot-in-Store
returns-in_ok-slot-in-Store c = λ h number before.
    let w = c.in-Store.store in
    let l = c.line_of.result in
    let line : line_of c.args.format w.addr ≡ l = ap (line_of c.args.format) (sym c.addr.ensures.value) ∙ sym c.line_of.ensures in
    let same : act c.args.format c.args.event.now ≡ Stores l w = ap (act_of c.args.format c.args.event.now.thread) c.in-Store.is ∙ ap (λ k. Stores k w) line in
    let known = c.in_ok-slot-in-Store.ensures.live (lines_of h) h before in
    subst (λ (a : Act). IsLive (a ∷ h) c.store.new.self) (sym same)
    (c.store.ensures (with_line l (lines_of h)) h l w (slot-in _ h l c.in_ok-slot-in-Store.slot _ c.in_ok-slot-in-Store.ensures.here known) known)

pub returns-in_ok-slot-in-Clflush : goal.returns-in_ok-slot-in-Clflush
returns-in_ok-slot-in-Clflush c = λ h number before.
    let l = c.line_of-in-Clflush.result in
    let same : act c.args.format c.args.event.now ≡ Clflushes l = ap (act_of c.args.format c.args.event.now.thread) c.in-Clflush.is ∙ ap Clflushes (sym c.line_of-in-Clflush.ensures) in
    let known = c.in_ok-slot-in-Clflush.ensures.live (lines_of h) h before in
    subst (λ (a : Act). IsLive (a ∷ h) c.clflush.new.self) (sym same)
    (c.clflush.ensures (with_line l (lines_of h)) h l (slot-in _ h l c.in_ok-slot-in-Clflush.slot _ c.in_ok-slot-in-Clflush.ensures.here known) known)

pub returns-in_ok-flush-in-Clwb : goal.returns-in_ok-flush-in-Clwb
returns-in_ok-flush-in-Clwb c = λ h number before.
    let l = c.line_of-in-Clwb.result in
    let same : act c.args.format c.args.event.now ≡ Flushes c.args.event.now.thread l = search (rules, c.line_of-in-Clwb.ensures) in
    let known = c.in_ok-slot-in-Clwb.ensures.live (lines_of h) h before in
    subst (λ (a : Act). IsLive (a ∷ h) c.flush.new.self) (sym same)
    (c.in_ok-flush-in-Clwb.ensures.live (with_line l (lines_of h)) h l number (slot-in _ h l c.in_ok-slot-in-Clwb.slot _ c.in_ok-slot-in-Clwb.ensures.here known) known)

pub store-requires-clause-room : goal.store-requires-clause-room
store-requires-clause-room c =
    let h = c.requires.0 in
    (with_line c.line_of.result (lines_of h), h, omega (arith, c.requires.1, c.requires.2), c.in_ok-slot-in-Store.ensures.live (lines_of h) h c.requires.3)

pub store-requires-clause-slot : goal.store-requires-clause-slot
store-requires-clause-slot c =
    let h = c.requires.0 in
    has-slot _ h c.line_of.result c.in_ok-slot-in-Store.slot _ c.in_ok-slot-in-Store.ensures.here (c.in_ok-slot-in-Store.ensures.live (lines_of h) h c.requires.3)

pub flush-requires-clause-slot : goal.flush-requires-clause-slot
flush-requires-clause-slot c =
    let h = c.requires.0 in
    has-slot _ h c.line_of-in-Clwb.result c.in_ok-slot-in-Clwb.slot _ c.in_ok-slot-in-Clwb.ensures.here (c.in_ok-slot-in-Clwb.ensures.live (lines_of h) h c.requires.3)

pub clflush-requires : goal.clflush-requires
clflush-requires c =
    let h = c.requires.0 in
    has-slot _ h c.line_of-in-Clflush.result c.in_ok-slot-in-Clflush.slot _ c.in_ok-slot-in-Clflush.ensures.here (c.in_ok-slot-in-Clflush.ensures.live (lines_of h) h c.requires.3)

pub fence-requires : goal.fence-requires
fence-requires c = (lines_of c.requires.0, c.requires.0, c.requires.3)
