use Rattle.pmt_image.proofs.Prelude.{◌<◌, List, length, sym, ap, ◌∙◌, arith, drop_all, LineStores, with_counts}
use Rattle.pmt_image.proofs.NearLemmas.{told-next, told-same}
use Rattle.pmt_image.proofs.near.stores_of.Goals as goal

-- what stands past the end of a list
abbrev none : LineStores
none = record { line = 0; stores = 0 }

pub loop-index-preserved : goal.loop-index-preserved
loop-index-preserved c =
    let xs = c.args.choice.now in
    let i = c.loop-index.index in
    let inside : i < length xs = omega (arith, c.loop-index-test.true) in
    elim c.if-chosen-line.branch [
      | goal.then-chosen-line w ↦ rw w.stores-is (told-next xs i none c.loop-index.stores c.args.line inside w.if-chosen-line.true ∙ c.loop-index.invariant)
      | goal.else-chosen-line w ↦ rw w.stores-is (told-same xs i none c.loop-index.stores c.args.line inside w.if-chosen-line.false ∙ c.loop-index.invariant)
    ]

pub returns : goal.returns
returns c =
    ap (λ (ys : List LineStores). with_counts ys (λ _. c.loop-index.stores) c.args.line) (sym (drop_all c.loop-index.index c.args.choice.now (omega (arith, c.loop-index-test.false)))) ∙ c.loop-index.invariant
