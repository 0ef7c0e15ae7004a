use Rattle.std.proofs.Common.{◌≡◌, ◌-◌, ◌<◌, length, get_or, reverse, true, false, refl, sym, ap, subst, ◌∙◌, arith}
use Rattle.std.proofs.lemmas.List.{take_all}
use Rattle.pmt_lines.specs.declared.step.Step.{Step}
use Rattle.pmt_lines.specs.Jobs.{LineWork, IsRaises}
use Rattle.pmt_lines.proofs.StepLemmas.{no_step}
use Rattle.pmt_trim.proofs.BackLemmas.{passed-turn, passed-none, turn, reverse-push}
use Rattle.pmt_trim.proofs.KeptLemmas.{all-kept, step-at}
use Rattle.pmt_trim.proofs.kept.kept_back.Goals as goal

pub returns : goal.returns
returns c = all-kept c.args.found.now.job c.loop-i.i c.loop-i.raises.now c.loop-i.waiting c.loop-i.kept.items (omega arith) c.loop-i.invariant.passed

pub loop-i-init : goal.loop-i-init
loop-i-init c =
    let job = c.args.found.now.job in
    let steps = c.steps-steps.result.now in
    let steps_are : steps ≡ job.steps = c.steps-steps.ensures.value ∙ ap (λ (w : LineWork). w.steps) c.job.ensures.value in
    record {
      size = refl;
      passed = λ T own.
          let all = take_all (length steps) job.steps (omega (arith, ap length steps_are)) in
          let told : IsRaises T job.line c.raises-raises.result.now = subst (λ rs. IsRaises T job.line rs) (sym c.raises-raises.ensures.value) (c.raises-raises.ensures.right.raises T own) in
          rw (all, c.in_ok-kept.ensures.items) (passed-none T job.line job.steps c.raises-raises.result.now _ own told refl);
    }

pub loop-i-preserved : goal.loop-i-preserved
loop-i-preserved c =
    let job = c.args.found.now.job in
    let steps = c.steps-steps.result.now in
    let steps_are : steps ≡ job.steps = c.steps-steps.ensures.value ∙ ap (λ (w : LineWork). w.steps) c.job.ensures.value in
    let s : Step = get_or steps (c.loop-i.i - 1) no_step in
    let small : s.thread < 256 = c.go_back.ensures.small in
    let before = reverse c.loop-i.kept.items in
    record {
      size = c.type_inv.waiting;
      passed = λ T own. passed-turn T job.line job.steps c.loop-i.i s c.raises_before-before.result c.loop-i.raises.now c.unwrap_or-raises.result.now c.loop-i.waiting c.go_back.new.waiting
          before before
          (turn s c.raises_before-before.result c.loop-i.raises c.unwrap_or-raises.result c.is_some.result false c.loop-i.waiting c.go_back.new.waiting before before
          c.raises_before-before.ensures c.unwrap_or-raises.ensures c.is_some.ensures (sym c.if-go_back.false ∙ c.go_back.ensures.kept) c.go_back.ensures.waits refl)
          own (omega arith) (step-at job steps c.loop-i.i no_step s steps_are (omega arith) refl) small c.loop-i.invariant.size
          (c.loop-i.invariant.passed T own);
    }

pub loop-i-preserved-in-Continue-branch-2 : goal.loop-i-preserved-in-Continue-branch-2
loop-i-preserved-in-Continue-branch-2 c =
    let job = c.args.found.now.job in
    let steps = c.steps-steps.result.now in
    let steps_are : steps ≡ job.steps = c.steps-steps.ensures.value ∙ ap (λ (w : LineWork). w.steps) c.job.ensures.value in
    let s : Step = get_or steps (c.loop-i.i - 1) no_step in
    let small : s.thread < 256 = c.go_back.ensures.small in
    let before = reverse c.loop-i.kept.items in
    let after = reverse c.push.new.self.items in
    record {
      size = c.type_inv.waiting;
      passed = λ T own. passed-turn T job.line job.steps c.loop-i.i s c.raises_before-before.result c.loop-i.raises.now c.unwrap_or-raises.result.now c.loop-i.waiting c.go_back.new.waiting
          before after
          (turn s c.raises_before-before.result c.loop-i.raises c.unwrap_or-raises.result c.is_some.result true c.loop-i.waiting c.go_back.new.waiting before after
          c.raises_before-before.ensures c.unwrap_or-raises.ensures c.is_some.ensures (sym c.if-go_back.true ∙ c.go_back.ensures.kept) c.go_back.ensures.waits
          (ap reverse c.in_ok-push.ensures.items ∙ reverse-push c.loop-i.kept.items s.number))
          own (omega arith) (step-at job steps c.loop-i.i no_step s steps_are (omega arith) refl) small c.loop-i.invariant.size
          (c.loop-i.invariant.passed T own);
    }
