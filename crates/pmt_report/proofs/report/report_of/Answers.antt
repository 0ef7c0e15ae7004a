use Rattle.std.proofs.Common.{ℕ, List, ◌++◌, ap, ◌∙◌}
use Rattle.pmt_report.specs.Reports.{entries, report, report_head, report_end}
use Rattle.pmt_report.proofs.Pushing.{pushed-3}
use Rattle.pmt_report.proofs.report.report_of.Goals as goal

pub returns : goal.returns
unfolding report
returns c =
    let head = report_head c.args.events c.args.lines in
    let middle = entries c.args.findings.now c.args.verdicts.now in
    let last = report_end c.args.events c.args.kept in
    pushed-3 _ _ _ _ head middle last
    (c.in_ok-extend_from_slice.ensures.items ∙ ap (λ (l : List ℕ). c.new-text.result.items ++ l) (c.spelled.ensures.is ∙ c.spell_head-start.ensures.told))
    c.in_ok-push_entries.ensures
    (c.in_ok-extend_from_slice-2.ensures.items ∙ ap (λ (l : List ℕ). c.push_entries.new.text.items ++ l) (c.spelled-2.ensures.is ∙ c.spell_end-start.ensures.told))
    ∙ ap (λ (s : List ℕ). s ++ (head ++ middle ++ last)) c.new-text.ensures.items
