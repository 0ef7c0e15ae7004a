use Rattle.std.proofs.Common.{sym}
use Rattle.pmt_explain.proofs.NumberLemmas.{at-place, number-there, number-unfound}
use Rattle.pmt_explain.proofs.numbers.Numbers.get.Goals as goal

pub returns-in-None : goal.returns-in-None
returns-in-None c = rw (← c.self.view_is) (sym (number-unfound c.self.inside.lines c.self.inside.rows.items c.args.line c.self.invariant c.in-None.ensures.found))

pub returns-in-Some : goal.returns-in-Some
returns-in-Some c =
    let at = at-place c.self.inside.lines c.self.inside.rows.items c.args.line c.in-Some.place c.self.invariant c.in-Some.ensures.found in
    rw (← c.self.view_is) (sym (number-there c.self.inside.lines c.self.inside.rows.items c.args.line c.in-Some.place c.index.result.now c.self.invariant at c.index.ensures))
