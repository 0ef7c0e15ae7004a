use Rattle.std.proofs.Common.{inl, inr, sym, subst, ◌∙◌}
use Rattle.pmt_model.specs.declared.finding.Finding.{Finding}
use Rattle.pmt_text.specs.Spelling.{Puts}
use Rattle.pmt_report.specs.Reports.{finding_entry}
use Rattle.pmt_report.proofs.NextLemmas.{verdict-told, finding-told, none-told}
use Rattle.pmt_report.proofs.entry.spell_next.Goals as goal
use Rattle.pmt_report.proofs.entry.spell_next.Goals.{in_default, in-len1-up+else-is_before}

pub returns-then-is_before-clause-told : goal.returns-then-is_before-clause-told
returns-then-is_before-clause-told c =
    verdict-told c.args.findings.now c.args.verdicts.now _ c.args.line.now c.spell_verdict-at.new.line 34 c.spell_verdict-at.result c.in-len1-up.len_at_least
    (sym c.is_before.ensures ∙ c.if-is_before.true) c.told-line c.spell_verdict-at.ensures

pub returns-in-empty-clause-told : goal.returns-in-empty-clause-told
returns-in-empty-clause-told c = none-told c.args.findings.now c.args.verdicts.now c.args.line.now c.told-line

pub returns-in-len1-up-findings-clause-told : goal.returns-in-len1-up-findings-clause-told
returns-in-len1-up-findings-clause-told c =
    finding-told c.args.findings.now c.args.verdicts.now _ _ c.args.line.now c.spell_finding-at.new.line 57 c.spell_finding-at.result c.in-len1-up-findings.len_at_least
    (elim c.if-verdicts-lt1.branch [
      | in_default w ↦ inl w.in_default.len_below
      | in-len1-up+else-is_before w ↦ inr (sym w.is_before.ensures ∙ w.if-is_before.false)
    ]) c.told-line (subst (λ (f : Finding). Puts c.args.line.now 128 (finding_entry f) 57 c.spell_finding-at.result c.spell_finding-at.new.line) (c.finding.ensures ∙ c.finding-item.is) c.spell_finding-at.ensures)
