use Rattle.pmt_image.proofs.Prelude.{◌<◌, ℕ, List, length, map, get_or, take, reverse, sym, ap, ◌∙◌, arith, if◌then◌else◌, ◌==◌, take_all, with_line, LineCount, StoreSpan, line_by, lines_of_spans, with_span}
use Rattle.pmt_explain.specs.Crashes.{count_in}
use Rattle.pmt_image.proofs.SpanLemmas.{mapped-same, newest-first}
use Rattle.pmt_image.proofs.open.open_lines.Goals as goal

-- what stands past the end of a list
abbrev none : StoreSpan
none = record { line = 0; rank = 0; safe = 0 }

pub loop-index-preserved : goal.loop-index-preserved
loop-index-preserved c =
    let xs = c.args.stores.now in
    let i = c.loop-index.index in
    let x = get_or xs i none in
    let inside : i < length xs = omega (arith, c.loop-index-test.true) in
    let newest = newest-first xs i none inside in
    record {
      lines = c.in_ok-add_store.ensures.lines ∙ ap (λ (ks : List ℕ). with_line x.line ks) c.loop-index.invariant.lines ∙ ap (λ (ys : List StoreSpan). lines_of_spans ys) (sym newest);
      each = λ k.
          c.in_ok-add_store.ensures.each k ∙ ap (λ (y : LineCount). if x.line == k then with_span x y else y) (c.loop-index.invariant.each k)
          ∙ ap (λ (ys : List StoreSpan). line_by ys k) (sym newest);
    }

pub returns : goal.returns
returns c =
    let whole = take_all c.loop-index.index c.args.stores.now (omega (arith, c.loop-index-test.false)) in
    c.in_ok-list.ensures ∙ ap (λ (ks : List ℕ). map (λ k. count_in c.loop-index.lines k) ks) c.loop-index.invariant.lines
    ∙ mapped-same (λ k. count_in c.loop-index.lines k) (line_by (reverse (take c.loop-index.index c.args.stores.now))) (lines_of_spans (reverse (take c.loop-index.index c.args.stores.now))) c.loop-index.invariant.each
    ∙ ap (λ (ys : List StoreSpan). map (line_by (reverse ys)) (lines_of_spans (reverse ys))) whole
