use Rattle.pmt_image.proofs.Prelude.{◌<◌, ◌++◌, ℕ, List, length, get_or, take, sym, ap, ◌∙◌, arith, flat_map, flat_map_more, take_all, take_more, LineStores, line_words}
use Rattle.pmt_image.proofs.listing.push_lines.Goals as goal

-- what stands past the end of a list
abbrev none : LineStores
none = record { line = 0; stores = 0 }

pub loop-index-preserved : goal.loop-index-preserved
loop-index-preserved c =
    let xs = c.args.lines.now in
    let i = c.loop-index.index in
    let x = get_or xs i none in
    let inside : i < length xs = omega (arith, c.loop-index-test.true) in
    c.in_ok-push_line.ensures ∙ ap (λ (ys : List ℕ). ys ++ line_words c.args.line_size x) c.loop-index.invariant
    ∙ flat_map_more (line_words c.args.line_size) c.args.text.now.items (take i xs) x
    ∙ ap (λ (ys : List LineStores). c.args.text.now.items ++ flat_map (line_words c.args.line_size) ys) (sym (take_more xs i none inside))

pub returns : goal.returns
returns c =
    c.loop-index.invariant
    ∙ ap (λ (ys : List LineStores). c.args.text.now.items ++ flat_map (line_words c.args.line_size) ys) (take_all c.loop-index.index c.args.lines.now (omega (arith, c.loop-index-test.false)))
