use Rattle.std.proofs.Common.{◌≡◌, Some, refl, rules}
use Rattle.std.specs.Prelude.{slice_get}
use Rattle.pmt_tables.proofs.ListLemmas.{among}
use Rattle.pmt_tables.proofs.line_slots.LineSlots.insert.Goals as goal

pub returns-in-Some-clause-added : goal.returns-in-Some-clause-added
returns-in-Some-clause-added c =
    let at : slice_get c.args.self.now c.in-Some.slot ≡ Some c.args.line = search (rules, c.in-Some.ensures.found) in
    rw (among c.args.self.now c.args.line c.in-Some.slot at) refl

pub returns-in-Some-clause-lines : goal.returns-in-Some-clause-lines
returns-in-Some-clause-lines c =
    let at : slice_get c.args.self.now c.in-Some.slot ≡ Some c.args.line = search (rules, c.in-Some.ensures.found) in
    rw (among c.args.self.now c.args.line c.in-Some.slot at) c.remember.ensures
