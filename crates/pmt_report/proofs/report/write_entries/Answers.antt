use Rattle.std.proofs.Common.{ℕ, ◌+◌, ◌≤◌, List, ◌++◌, length, ap, sym, ◌∙◌, arith}
use Rattle.std.proofs.lemmas.Grind.{elements}
use Rattle.pmt_report.specs.Reports.{entries}
use Rattle.pmt_report.proofs.ChunkLemmas.{all-few, all-put, line-fails, way-on}
use Rattle.pmt_report.proofs.NextLemmas.{none-left}
use Rattle.pmt_report.proofs.report.write_entries.Goals as goal
use Rattle.pmt_report.proofs.report.write_entries.Goals.{then-findings-gt0, else-findings-gt0+then-verdicts-gt0}

pub put-requires-clause-text : goal.put-requires-clause-text
put-requires-clause-text g c =
    let given = c.requires.text in
    let way = c.loop-findings.invariant.1 given.0 given.1 given.3 given.2 in
    let few = way.few in
    (given.0, way.sofar, way.put, omega (arith, few))

pub returns-in-Err-clause-put : goal.returns-in-Err-clause-put
returns-in-Err-clause-put g c = λ before text short put.
    let way = c.loop-findings.invariant.1 before text short put in
    let later = entries c.spell_next-start.result.1.now c.spell_next-start.result.2.now in
    line-fails before _ way.sofar _ c.spelled.result.now later _ c.in-Err.fault (c.in-Err.ensures.put before way.sofar way.put)
    (c.spell_next-start.ensures.told ∙ ap (λ (l : List ℕ). l ++ later) (sym c.spelled.ensures.is)) way.rest

pub loop-findings-preserved : goal.loop-findings-preserved
loop-findings-preserved g c =
    let sofar = c.loop-findings.invariant.0 in
    let none = c.in_default.ensures.failures in
    let later = entries c.spell_next-start.result.1.now c.spell_next-start.result.2.now in
    let lines = length c.loop-findings.findings.now + length c.loop-findings.verdicts.now in
    let some : 1 ≤ lines = elim c.if-findings-gt0.branch [
      | then-findings-gt0 w ↦ let h = w.if-findings-gt0.true in omega (arith, h)
      | else-findings-gt0+then-verdicts-gt0 w ↦ let h = w.if-verdicts-gt0.true in omega (arith, h)
    ] in (
      omega (arith, none, sofar),
      λ before text short put.
          let way = c.loop-findings.invariant.1 before text short put in
          way-on before _ _ _ _ c.spelled.result.now later lines _ c.loop-findings.chunks c.put.new.self way (c.spell_next-start.ensures.told ∙ ap (λ (l : List ℕ). l ++ later) (sym c.spelled.ensures.is))
          c.spell_next-start.ensures.left some c.spelled.ensures.short (c.in_default.ensures.put before way.sofar way.put),
    )

pub returns-clause-put : goal.returns-clause-put
returns-clause-put g c = λ before text short put.
    let findings = c.if-findings-gt0.false in
    let verdicts = c.if-verdicts-gt0.false in
    all-put before _ _ _ _ c.loop-findings.chunks (c.loop-findings.invariant.1 before text short put)
    (none-left c.loop-findings.findings.now c.loop-findings.verdicts.now (omega (arith, findings)) (omega (arith, verdicts)))

pub returns-clause-bound : goal.returns-clause-bound
returns-clause-bound g c =
    let given = c.requires.text in
    let findings = c.if-findings-gt0.false in
    let verdicts = c.if-verdicts-gt0.false in
    all-few given.0 _ given.1 _ _ _ c.loop-findings.chunks (c.loop-findings.invariant.1 given.0 given.1 given.3 given.2)
    (none-left c.loop-findings.findings.now c.loop-findings.verdicts.now (omega (arith, findings)) (omega (arith, verdicts)))

pub loop-findings-init : goal.loop-findings-init
loop-findings-init g c = grind (arith, elements)
