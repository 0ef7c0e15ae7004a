use Rattle.std.proofs.Common.{arith, ◌∙◌, ap, sym}
use Rattle.std.proofs.lemmas.Grind.{elements}
use Rattle.pmt_model.specs.Traces.{Recording}
use Rattle.pmt_recorder.proofs.AppendLemmas.{appended}
use Rattle.pmt_recorder.proofs.shelf.Shelf.append.Goals as goal

pub returns-clause-format : goal.returns-clause-format
returns-clause-format g c = ap (λ (T : Recording). T.format) (sym c.self.view_is) ∙ c.self.invariant.format

pub returns-clause-appends : goal.returns-clause-appends
returns-clause-appends g c =
    appended c.args.self.now c.self.inside.book c.push_event.new.self c.args.tape.now c.tape.inside.thread c.tape.inside.entries.items c.reserve.new.self.items
    c.push_reserved.new.self.items c.args.op c.in_ok-number.number c.tape.inside.share.amount c.self.inside.count.total (sym c.self.view_is) (sym c.tape.view_is)
    c.reserve.ensures.items c.push_reserved.ensures.items c.in_ok-number.ensures c.tape.invariant.1 c.audit.ensures.bound c.self.invariant.count

pub invariant_of-self-2 : goal.invariant_of-self-2
invariant_of-self-2 g c = grind (arith, elements)
