use Rattle.std.proofs.Common.{arith, ◌≡◌, sym, ap₂, subst, ◌∙◌}
use Rattle.std.proofs.lemmas.Grind.{elements}
use Rattle.pmt_laws.specs.Prelude.{line_of, Stores, IsAct}
use Rattle.pmt_explain.proofs.OverwrittenGroupLemmas.{earlier-none, later-none, pair-alone}
use Rattle.pmt_explain.proofs.overwritten_grouping.group_of.Goals as goal

pub returns-in_err-earlier-clause-alone : goal.returns-in_err-earlier-clause-alone
returns-in_err-earlier-clause-alone c = rw c.from_residual.ensures (earlier-none c.args.trace.now c.args.pair c.in_err-earlier.ensures)

pub returns-in_err-later-clause-alone : goal.returns-in_err-later-clause-alone
returns-in_err-later-clause-alone c = rw c.from_residual-in_err-later.ensures (later-none c.args.trace.now c.args.pair c.in_err-later.ensures)

pub returns-clause-alone : goal.returns-clause-alone
returns-clause-alone c =
    let T = c.args.trace.now in
    let w = c.in_ok-earlier.earlier in
    let v = c.in_ok-later.later in
    let line : line_of T.format w.addr ≡ c.line_of-line.result = sym (c.line_of-line.ensures ∙ ap₂ line_of c.format-format.ensures.value c.addr.ensures.value) in
    let other : line_of T.format v.addr ≡ c.line_of.result = sym (c.line_of.ensures ∙ ap₂ line_of c.format-format.ensures.value c.addr-2.ensures.value) in
    pair-alone T c.args.pair c.line_of-line.result c.line_of.result c.from.result w v c.repeats.result
    (subst (λ l. IsAct T c.args.pair.earlier (Stores l w)) line (c.in_ok-earlier.ensures {u = tt})) (subst (λ l. IsAct T c.args.pair.later (Stores l v)) other (c.in_ok-later.ensures {u = tt}))
    c.if-line_of-line.false c.repeats.ensures c.from.ensures

pub returns-then-line_of-line-clause-alone : goal.returns-then-line_of-line-clause-alone
returns-then-line_of-line-clause-alone c = grind (arith, elements)
