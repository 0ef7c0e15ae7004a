use Rattle.pmt_image.proofs.Prelude.{◌<◌, ◌≤◌, List, length, get_or, sym, subst, rules, arith, AllByRecursion, drop_more, LineStores, count_in, IsBetween}
use Rattle.pmt_image.proofs.crash.check_bounds.Goals as goal

-- what stands past the end of a list
abbrev none : LineStores
none = record { line = 0; stores = 0 }

pub loop-index-preserved : goal.loop-index-preserved
loop-index-preserved c = λ rest.
    let xs = c.args.asked.now in
    let i = c.loop-index.index in
    let x = get_or xs i none in
    let inside : i < length xs = omega (arith, c.loop-index-test.true) in
    let P : List LineStores → Type 0 = λ ys. AllByRecursion (IsBetween (count_in c.args.least.now) (count_in c.args.greatest.now)) ys in
    let few : count_in c.args.least.now x.line ≤ x.stores = omega (arith, c.count_of-few.ensures, c.if-line-few.false) in
    let many : x.stores ≤ count_in c.args.greatest.now x.line = omega (arith, c.count_of-many.ensures, c.if-many-line.false) in
    c.loop-index.invariant (subst P (sym (drop_more xs i none inside)) ((few, many), rest))

pub returns-then-many-line-clause-fault : goal.returns-then-many-line-clause-fault
returns-then-many-line-clause-fault c = search rules
