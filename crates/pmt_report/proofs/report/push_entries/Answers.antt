use Rattle.std.proofs.Common.{ℕ, List, ◌++◌, ap, sym, ◌∙◌, append-nil, arith}
use Rattle.pmt_report.proofs.NextLemmas.{none-left}
use Rattle.pmt_report.proofs.report.push_entries.Goals as goal

pub returns : goal.returns
returns c =
    let l = c.loop-findings in
    let findings = c.if-findings-gt0.false in
    let verdicts = c.if-verdicts-gt0.false in
    let none = none-left l.findings.now l.verdicts.now (omega (arith, findings)) (omega (arith, verdicts)) in
    sym (append-nil l.text.items) ∙ ap (λ (xs : List ℕ). l.text.items ++ xs) (sym none) ∙ l.invariant
