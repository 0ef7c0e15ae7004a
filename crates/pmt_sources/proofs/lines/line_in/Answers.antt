use Rattle.std.proofs.Common.{◌≡◌, ◌≤◌, ◌-◌, ◌+◌, suc, [], length, sym, ap, ◌∙◌, arith}
use Rattle.std.proofs.lemmas.Bool.{eqb-true}
use Rattle.pmt_sources.specs.Places.{after_line, after_lines}
use Rattle.pmt_sources.proofs.LineLemmas.{after-more, ended, nothing}
use Rattle.pmt_sources.proofs.lines.line_in.Goals as goal

pub returns-then-is_empty : goal.returns-then-is_empty
returns-then-is_empty c =
    let text = c.args.text.now in
    let rest = c.loop.rest.now in
    let none : rest ≡ [] = nothing rest (eqb-true (length rest) 0 (sym c.is_empty.ensures ∙ c.if-is_empty.true)) in
    let by : c.loop.counter ≤ c.args.number - 1 = omega (arith, c.loop.auto.counter-end, c.saturating_sub-end.ensures) in
    sym (ended (c.args.number - 1) c.loop.counter text by (sym c.loop.invariant ∙ none))

pub loop-preserved : goal.loop-preserved
loop-preserved c =
    let text = c.args.text.now in
    let k = c.loop.counter in
    let next : suc k ≡ k + 1 = omega arith in
    c.rest_after-rest.ensures ∙ ap after_line c.loop.invariant ∙ sym (after-more k text) ∙ ap (λ i. after_lines i text) next
