use Rattle.std.proofs.Common.{◌≡◌, ◌+◌, ◌<◌, false, not, get_or, drop, refl, sym, ◌∙◌, arith}
use Rattle.std.proofs.lemmas.Grind.{elements}
use Rattle.std.proofs.lemmas.List.{get_or-replicate}
use Rattle.std.proofs.lemmas.Bool.{and_from, and_left, and_right, not_from_true, not_from_false}
use Rattle.pmt_lines.specs.Jobs.{AreSteps, is_fence, IsThreadJobOf, IsThreadResult, IsEmptyFences}
use Rattle.pmt_lines.proofs.StepLemmas.{no_step}
use Rattle.pmt_lines.proofs.FenceRunLemmas.{fences-start, fences-next, fences-past, fences-quiet, fences-told, fences-end}
use Rattle.pmt_lines.proofs.fences.run_fences.Goals as goal
use Rattle.pmt_lines.proofs.fences.run_fences.Goals.{then-is_fence+then-not-has_flushed+in_ok-push, else-is_fence, else-is_fence-via-then-is_fence+else-not-has_flushed, else-is_fence-via-else-is_fence, After-loop-step}

pub loop-step-init : goal.loop-step-init
loop-step-init c =
    let steps = c.steps-steps.result.now in
    let rising : AreSteps 0 steps = rw c.steps-steps.ensures.value c.steps-steps.ensures.rising in
    rw c.new-empty.ensures.items (fences-start steps _ rising refl (λ t h. get_or-replicate 256 t false false h))

pub loop-step-preserved : goal.loop-step-preserved
loop-step-preserved c =
    let steps = c.steps-steps.result.now in
    let i = c.loop-step.step-index in
    let s = get_or steps i no_step in
    let flags = c.loop-step.flushed in
    let empty = c.loop-step.empty.items in
    let running = fences-next steps i no_step flags empty c.loop-step-test.true c.loop-step.invariant in
    let thread : s.thread < 256 = omega arith in
    let kind : is_fence s.kind ≡ c.is_fence.result = sym c.is_fence.ensures in
    elim c.if-is_fence.branch [
      | then-is_fence+then-not-has_flushed+in_ok-push w ↦
          let told = and_from (is_fence s.kind) (not (get_or flags s.thread false)) (kind ∙ w.if-is_fence.true) (not_from_false (get_or flags s.thread false) w.if-not-has_flushed.true) in
          rw (c.is_flush.ensures, w.empty-is, w.in_ok-push.ensures.items) (fences-told steps s (drop (i + 1) steps) flags empty running thread told)
      | else-is_fence w ↦
          elim w.else-is_fence.branch [
            | else-is_fence-via-then-is_fence+else-not-has_flushed v ↦
                let quiet = and_right (is_fence s.kind) (not (get_or flags s.thread false)) (not_from_true (get_or flags s.thread false) v.if-not-has_flushed.false) in
                rw (c.is_flush.ensures, w.empty-is) (fences-quiet steps s (drop (i + 1) steps) flags empty running thread quiet)
            | else-is_fence-via-else-is_fence v ↦
                let quiet = and_left (is_fence s.kind) (not (get_or flags s.thread false)) (kind ∙ v.if-is_fence.false) in
                rw (c.is_flush.ensures, w.empty-is) (fences-quiet steps s (drop (i + 1) steps) flags empty running thread quiet)
          ]
    ]

-- after the last step the fences without flush are told
right : (c : After-loop-step) → IsThreadResult (record { steps = c.args.job; empty = c.loop-step.empty.items })
right c = record { empty = λ T job. go T (rw (← c.steps-steps.ensures.value) at job) }
  where
    go : (T : _) → IsThreadJobOf T c.steps-steps.result.now → IsEmptyFences T c.loop-step.empty.items
    go T job =
        fences-end c.steps-steps.result.now c.loop-step.flushed c.loop-step.empty.items
        (fences-past c.steps-steps.result.now c.loop-step.step-index c.loop-step.flushed c.loop-step.empty.items c.loop-step-test.false c.loop-step.invariant)
        T job

pub invariant_of-result : goal.invariant_of-result
invariant_of-result c = right c

pub returns-clause-right : goal.returns-clause-right
returns-clause-right c = right (goal.at.returns-clause-right c).After-loop-step

pub returns-in_err-push-clause-job : goal.returns-in_err-push-clause-job
returns-in_err-push-clause-job c = grind (arith, elements)

pub returns-in_err-push-clause-right : goal.returns-in_err-push-clause-right
returns-in_err-push-clause-right c = grind (arith, elements)
