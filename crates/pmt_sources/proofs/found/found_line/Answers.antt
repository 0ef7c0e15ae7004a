use Rattle.std.proofs.Common.{◌∙◌, sym}
use Rattle.std.proofs.lemmas.Bool.{true≢false}
use Rattle.pmt_sources.proofs.FoundLemmas.{left-more}
use Rattle.pmt_sources.proofs.found.found_line.Goals as goal

pub loop-line-preserved : goal.loop-line-preserved
loop-line-preserved c =
    let line = c.line-item.result in
    left-more c.args.place c.args.lines.now c.loop-line.line-index line c.loop-line-test.true c.line-item.is
    (λ same. true≢false (sym (c.is_same.ensures.1 same) ∙ c.if-is_same.false))
    c.loop-line.invariant
