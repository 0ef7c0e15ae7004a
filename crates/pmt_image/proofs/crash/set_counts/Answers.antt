use Rattle.pmt_image.proofs.Prelude.{◌<◌, ◌+◌, List, length, get_or, drop, sym, ap, ◌∙◌, arith, drop_more, drop_all, LineStores, count_in, with_counts}
use Rattle.pmt_image.proofs.CountLemmas.{counts-next}
use Rattle.pmt_image.proofs.crash.set_counts.Goals as goal

-- what stands past the end of a list
abbrev none : LineStores
none = record { line = 0; stores = 0 }

pub loop-index-preserved : goal.loop-index-preserved
loop-index-preserved c = λ k.
    let xs = c.args.lines.now in
    let i = c.loop-index.index in
    let inside : i < length xs = omega (arith, c.loop-index-test.true) in
    counts-next (drop (i + 1) xs) (get_or xs i none) (count_in c.loop-index.table) (count_in c.set_count.new.table) c.in_ok-set_count.ensures k
    ∙ ap (λ (ys : List LineStores). with_counts ys (count_in c.loop-index.table) k) (sym (drop_more xs i none inside)) ∙ c.loop-index.invariant k

pub returns : goal.returns
returns c = λ k.
    ap (λ (ys : List LineStores). with_counts ys (count_in c.loop-index.table) k) (sym (drop_all c.loop-index.index c.args.lines.now (omega (arith, c.loop-index-test.false)))) ∙ c.loop-index.invariant k
