use Rattle.std.proofs.Common.{sym}
use Rattle.pmt_recorder.proofs.SealLemmas.{handed_back}
use Rattle.pmt_recorder.proofs.shelf.Shelf.audit.Goals as goal

pub returns-clause-book : goal.returns-clause-book
returns-clause-book g c =
    handed_back g.L.Roll.tapes c.self.inside.count.total g.L.Roll.format c.args.tapes.now c.self.inside.book c.args.self.now c.self.invariant (sym c.self.view_is) c.audit.ensures.most c.audit.ensures.all
