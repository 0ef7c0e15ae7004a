use Rattle.pmt_page.proofs.Prelude.{◌≡◌, ◌++◌, drop, map, verdict_letter}
use Rattle.pmt_page.proofs.fields.push_verdicts.Given as goal

abbrev pub invariant-loop-verdict : goal.invariant-loop-verdict
invariant-loop-verdict l = l.text.items ++ map verdict_letter (drop l.verdict-index l.verdicts) ≡ l.initial.text.items ++ map verdict_letter l.verdicts
