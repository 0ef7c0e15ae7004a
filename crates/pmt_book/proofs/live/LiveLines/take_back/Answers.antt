use Rattle.pmt_model.specs.Machine.{count}
use Rattle.pmt_rows.proofs.OpenLemmas.{waits-on}
use Rattle.pmt_book.proofs.live.LiveLines.take_back.Goals as goal

pub returns : goal.returns
returns c = λ lines h l is. record { rows = is.rows; waiting = (waits-on count).back lines c.args.thread l h _ _ c.take_back.ensures is.waiting }
