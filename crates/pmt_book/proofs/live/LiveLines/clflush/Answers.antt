use Rattle.std.proofs.Common.{refl}
use Rattle.pmt_laws.specs.Prelude.{count, front}
use Rattle.pmt_book.proofs.LiveLemmas.{live-clflush}
use Rattle.pmt_book.proofs.live.LiveLines.clflush.Goals as goal

pub returns : goal.returns
returns c = λ lines h l at is. live-clflush lines h c.args.self.now is l _ (c.clflush.ensures lines (λ k. count k h) (λ k. front k h) (λ k. 0) l at is.rows) refl
