use Rattle.pmt_image.proofs.Prelude.{◌<◌, ◌+◌, List, length, drop, map, sym, ap, ◌∙◌, arith, drop_more, drop_all, LineCount, LineStores, chosen}
use Rattle.pmt_image.proofs.near.choices.Goals as goal

-- what stands past the end of a list
abbrev none : LineCount
none = record { line = 0; stores = 0; persisted = 0 }

pub loop-index-preserved : goal.loop-index-preserved
loop-index-preserved c =
    let xs = c.args.lines.now in
    let i = c.loop-index.index in
    let inside : i < length xs = omega (arith, c.loop-index-test.true) in
    ap (λ (cs : List (List LineStores)). chosen c.args.all c.args.most (drop (i + 1) xs) cs) c.in_ok-add_line.ensures
    ∙ ap (λ (ys : List LineCount). chosen c.args.all c.args.most ys (map (λ choice. choice.items) c.loop-index.choices.items)) (sym (drop_more xs i none inside)) ∙ c.loop-index.invariant

pub returns : goal.returns
returns c =
    let xs = c.args.lines.now in
    ap (λ (ys : List LineCount). chosen c.args.all c.args.most ys (map (λ choice. choice.items) c.loop-index.choices.items)) (sym (drop_all c.loop-index.index xs (omega (arith, c.loop-index-test.false)))) ∙ c.loop-index.invariant
