use Rattle.pmt_image.proofs.Prelude.{◌<◌, List, length, sym, ap, arith, lt-ltb, le-ltb, drop_all, LineCount, fronts_off}
use Rattle.pmt_image.proofs.NearLemmas.{off-next, off-same}
use Rattle.pmt_image.proofs.near.is_farther.Goals as goal

-- what stands past the end of a list
abbrev none : LineCount
none = record { line = 0; stores = 0; persisted = 0 }

pub returns-then-off-most : goal.returns-then-off-most
returns-then-off-most c =
    let xs = c.args.lines.now in
    let i = c.loop-index.index in
    let inside : i < length xs = omega (arith, c.loop-index-test.true) in
    let next = off-next xs i none c.args.choice.now c.stores_of-stores.result inside c.stores_of-stores.ensures c.if-stores-line.true in
    let sum = c.loop-index.invariant.sum in
    sym (lt-ltb c.args.most (fronts_off c.args.lines.now c.args.choice.now) (omega (arith, next, sum, c.if-off-most.true)))

pub loop-index-preserved : goal.loop-index-preserved
loop-index-preserved c =
    let xs = c.args.lines.now in
    let i = c.loop-index.index in
    let inside : i < length xs = omega (arith, c.loop-index-test.true) in
    elim c.if-stores-line.branch [
      | goal.then-stores-line+else-off-most w ↦
          let next = off-next xs i none c.args.choice.now c.stores_of-stores.result inside c.stores_of-stores.ensures w.if-stores-line.true in
          let sum = c.loop-index.invariant.sum in
          record { sum = omega (arith, next, sum, w.off-is); few = omega arith }
      | goal.else-stores-line w ↦
          let next = off-same xs i none c.args.choice.now c.stores_of-stores.result inside c.stores_of-stores.ensures w.if-stores-line.false in
          let sum = c.loop-index.invariant.sum in
          record { sum = omega (arith, next, sum, w.off-is); few = omega arith }
    ]

pub returns : goal.returns
returns c =
    let rest = ap (λ (ys : List LineCount). fronts_off ys c.args.choice.now) (drop_all c.loop-index.index c.args.lines.now (omega (arith, c.loop-index-test.false))) in
    let sum = c.loop-index.invariant.sum in
    let few = c.loop-index.invariant.few in
    sym (le-ltb c.args.most (fronts_off c.args.lines.now c.args.choice.now) (omega (arith, rest, sum, few)))
