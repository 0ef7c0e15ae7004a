use Rattle.std.proofs.Common.{◌+◌, ◌∙◌, [], drop, ap, arith}
use Rattle.std.proofs.lemmas.Grind.{elements}
use Rattle.std.proofs.lemmas.Bool.{both_ways}
use Rattle.pmt_model.specs.Traces.{Recording}
use Rattle.pmt_lines.specs.Jobs.{IsJobOf, last_flush_of, IsLineResult}
use Rattle.pmt_lines.proofs.StepLemmas.{no_step}
use Rattle.pmt_lines.proofs.RunLemmas.{Running, running-next, running-past, running-room, running-quiet, running-raised, running-end, running-follows}
use Rattle.pmt_lines.proofs.FoundLemmas.{ending-flush}
use Rattle.pmt_lines.proofs.raises.run_line.Goals as goal
use Rattle.pmt_lines.proofs.raises.run_line.Goals.{then-branch+in_ok-push, else-branch, In_ok-findings}

pub take_step-requires : goal.take_step-requires
take_step-requires c =
    let steps = c.steps-steps.result.now in
    let i = c.loop-step.step-index in
    running-room c.args.job.line steps _ (drop (i + 1) steps) c.loop-step.state c.loop-step.raises.items
    (running-next c.args.job.line steps i no_step c.loop-step.state c.loop-step.raises.items c.loop-step-test.true c.loop-step.invariant)

pub loop-step-preserved : goal.loop-step-preserved
loop-step-preserved c =
    let line = c.args.job.line in
    let steps = c.steps-steps.result.now in
    let i = c.loop-step.step-index in
    let old = c.loop-step.state in
    let new = c.take_step.new.state in
    let raises = c.loop-step.raises.items in
    let said = c.in_ok-take_step.ensures in
    elim c.if-branch.branch [
      | then-branch+in_ok-push w ↦
          rw (w.raises-is, w.in_ok-push.ensures.items, w.front.ensures.value)
          (running-raised line steps _ (drop (i + 1) steps) old new raises (running-next line steps i _ old raises c.loop-step-test.true c.loop-step.invariant) said.takes said.counted (said.rose.0 w.if-branch.true))
      | else-branch w ↦
          rw w.raises-is
          (running-quiet line steps _ (drop (i + 1) steps) old new raises (running-next line steps i _ old raises c.loop-step-test.true c.loop-step.invariant) said.takes said.counted (λ h. both_ways c.in_ok-take_step.field-0 w.if-branch.false (said.rose.1 h)))
    ]

-- the run is over
ended : (c : In_ok-findings) → Running c.args.job.line c.steps-steps.result.now [] c.loop-step.state c.loop-step.raises.items
ended c = running-past c.args.job.line c.steps-steps.result.now c.loop-step.step-index c.loop-step.state c.loop-step.raises.items c.loop-step-test.false c.loop-step.invariant

-- its job, as the loop sees it
seen : (c : In_ok-findings) (T : Recording) → IsJobOf T c.args.job.line c.args.job.steps → IsJobOf T c.args.job.line c.steps-steps.result.now
seen c T job = rw (← c.steps-steps.ensures.value) at job

-- after the last step the raises are those of the line, and what is known of its end is so
right : (c : In_ok-findings) → IsLineResult (record { job = c.args.job; raises = c.loop-step.raises.items; findings = c.in_ok-findings.findings.items })
right c = record {
  raises = λ T job. running-end c.args.job.line c.steps-steps.result.now c.loop-step.state c.loop-step.raises.items (ended c) T (seen c T job);
  findings = λ T is_trace job. c.in_ok-findings.ensures T is_trace job (record {
    front = c.front-2.ensures.value ∙ (running-follows c.args.job.line c.steps-steps.result.now c.loop-step.state c.loop-step.raises.items (ended c) T (seen c T job)).fronts;
    flush = c.last_flush.ensures ∙ ap (last_flush_of 0) c.steps.ensures.value ∙ ending-flush T c.args.job.line 0 c.args.job.steps (omega arith) job;
  });
}

pub invariant_of-result : goal.invariant_of-result
invariant_of-result c = right c

pub returns-clause-right : goal.returns-clause-right
returns-clause-right c = right (goal.at.returns-clause-right c).In_ok-findings

pub same-job : goal.same-job
same-job c = grind (arith, elements)
