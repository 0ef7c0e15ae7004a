use Rattle.pmt_explain.proofs.NumberLemmas.{reaches-known}
use Rattle.pmt_explain.proofs.numbers.Numbers.reach.Goals as goal

pub returns-in-Some : goal.returns-in-Some
returns-in-Some c = rw (← c.self.view_is) (reaches-known c.self.inside.lines c.self.inside.rows.items c.args.line c.args.other c.in-Some.place c.self.invariant c.in-Some.ensures.slot)
