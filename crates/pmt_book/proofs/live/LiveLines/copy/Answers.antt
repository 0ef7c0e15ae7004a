use Rattle.std.proofs.Common.{subst, sym}
use Rattle.pmt_laws.specs.Prelude.{count, front}
use Rattle.pmt_rows.specs.Waiting.{AreWaitingBy}
use Rattle.pmt_book.proofs.live.LiveLines.copy.Goals as goal

pub returns : goal.returns
returns c = λ lines h is. record { rows = c.in_ok-copy.ensures lines (λ k. count k h) (λ k. front k h) (λ k. 0) is.rows; waiting = subst (AreWaitingBy count lines h) (sym c.in_ok-copy-2.ensures) is.waiting }
