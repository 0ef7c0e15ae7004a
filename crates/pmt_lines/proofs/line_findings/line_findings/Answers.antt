use Rattle.std.proofs.Common.{◌+◌, drop, sym, append-nil}
use Rattle.pmt_lines.specs.Jobs.{AreSteps, IsJobOf}
use Rattle.pmt_lines.proofs.FoundLemmas.{scanning-start, scanning-next, scanning-end, scanning-at, scanning-past}
use Rattle.pmt_lines.proofs.line_findings.line_findings.Goals as goal

pub loop-step-init : goal.loop-step-init
loop-step-init c =
    let said = c.new-scan.ensures in
    let rising : AreSteps 0 c.steps-steps.result.now = rw c.steps-steps.ensures.value c.steps-steps.ensures.rising in
    rw c.new-found.ensures.items (scanning-start c.args.job.now.line c.steps-steps.result.now _ c.new-scan.result rising said.state said.stores said.flush)

pub loop-step-preserved : goal.loop-step-preserved
loop-step-preserved c =
    let line = c.args.job.now.line in
    let steps = c.steps-steps.result.now in
    let i = c.loop-step.step-index in
    let said = c.in_ok-take.ensures in
    scanning-next line steps _ (drop (i + 1) steps) _ c.loop-step.scan c.take.new.self c.loop-step.found.items c.report.new.found.items (sym (append-nil c.loop-step.found.items)) said.counted c.in_ok-report.ensures
    (record { takes = said.takes; bytes = said.bytes; flush = said.flush })
    (scanning-at line steps i _ _ c.loop-step.scan c.loop-step.found.items c.loop-step-test.true c.loop-step.invariant)

pub returns : goal.returns
returns c = λ T is_trace job end.
    let job' : IsJobOf T c.args.job.now.line c.steps-steps.result.now = rw c.steps-steps.ensures.value job in
    scanning-end c.args.job.now.line c.steps-steps.result.now _ c.loop-step.scan c.loop-step.found.items
    (scanning-past c.args.job.now.line c.steps-steps.result.now c.loop-step.step-index _ c.loop-step.scan c.loop-step.found.items c.loop-step-test.false c.loop-step.invariant)
    T is_trace end job'
