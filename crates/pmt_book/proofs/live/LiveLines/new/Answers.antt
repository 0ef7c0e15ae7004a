use Rattle.std.proofs.Common.{refl}
use Rattle.pmt_book.proofs.LiveLemmas.{live-new}
use Rattle.pmt_book.proofs.live.LiveLines.new.Goals as goal

pub returns : goal.returns
returns c = live-new _ c.new.ensures _ refl c.new-2.ensures
