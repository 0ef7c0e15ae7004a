use Rattle.std.proofs.Common.{arith}
use Rattle.std.proofs.lemmas.Grind.{elements}
use Rattle.pmt_explain.proofs.NumberLemmas.{table-put, read-reached, puts-reached}
use Rattle.pmt_explain.proofs.numbers.Numbers.lower.Goals as goal

pub invariant_of-self : goal.invariant_of-self
invariant_of-self c =
    let reached = rw (← c.self.view_is) at c.in_ok-place.ensures in
    table-put c.self.inside.lines c.self.inside.rows.items c.args.line c.in_ok-place.place c.index_mut.result.now c.self.invariant reached.here c.index_mut.ensures.value c.min.result

pub returns-clause-number : goal.returns-clause-number
returns-clause-number c =
    let reached = rw (← c.self.view_is) at c.in_ok-place.ensures in
    read-reached c.self.inside.lines c.args.self.now c.self.inside.rows.items c.args.line c.args.other c.in_ok-place.place c.index.result.now c.self.invariant reached c.index.ensures

pub returns-clause-put : goal.returns-clause-put
returns-clause-put c =
    let reached = rw (← c.self.view_is) at c.in_ok-place.ensures in
    rw (← c.min.ensures)
    (puts-reached c.self.inside.lines c.args.self.now c.self.inside.rows.items c.args.line c.args.other c.in_ok-place.place c.min.result c.index_mut.result.now c.self.invariant reached c.index_mut.ensures.value)

pub index-requires : goal.index-requires
index-requires c = grind (arith, elements)

pub index_mut-requires : goal.index_mut-requires
index_mut-requires c = grind (arith, elements)
