use Rattle.std.proofs.Common.{refl, rules}
use Rattle.pmt_laws.specs.Prelude.{count, front}
use Rattle.pmt_book.proofs.LiveLemmas.{live-placed}
use Rattle.pmt_book.specs.Live.{Keeps}
use Rattle.pmt_book.proofs.live.LiveLines.slot_of.Goals as goal

pub returns-clause-live : goal.returns-clause-live
returns-clause-live c = λ lines h is. live-placed lines h c.args.self.now is c.args.line _ (c.in_ok-slot.ensures.known lines (λ k. count k h) (λ k. front k h) (λ k. 0) is.rows) refl

pub returns-in_err-slot-clause-kept : goal.returns-in_err-slot-clause-kept
returns-in_err-slot-clause-kept c =
    let kept : Keeps c.args.self.now (record { rows = c.slot_of.new.self; waiting = c.args.self.now.waiting }) = λ lines h is. record { rows = c.in_err-slot.ensures.kept lines (λ k. count k h) (λ k. front k h) (λ k. 0) is.rows; waiting = is.waiting } in
    search (rules, kept)
