use Rattle.std.proofs.Common.{refl, rules}
use Rattle.pmt_book.proofs.LiveLemmas.{live-flush, live-kept}
use Rattle.pmt_book.specs.Live.{Keeps}
use Rattle.pmt_book.proofs.live.LiveLines.flush.Goals as goal

pub returns-clause-live : goal.returns-clause-live
returns-clause-live c = λ lines h l numbered at is.
    live-flush lines h c.args.self.now is c.args.thread l c.args.slot (record { number = c.args.number; slot = c.args.slot; store = c.count.result }) _ numbered refl (c.count.ensures lines h l at is) at refl c.in_ok-add.ensures.own
    c.in_ok-add.ensures.others

pub returns-in_err-add-clause-kept : goal.returns-in_err-add-clause-kept
returns-in_err-add-clause-kept c =
    let kept : Keeps c.args.self.now (record { rows = c.args.self.now.rows; waiting = c.add.new.self }) = λ lines h is. live-kept lines h c.args.self.now is _ refl c.in_err-add.ensures.same in
    search (rules, kept)
