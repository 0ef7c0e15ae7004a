use Rattle.std.proofs.Common.{length, refl, sym, ap, ◌∙◌}
use Rattle.pmt_model.specs.Traces.{with_event}
use Rattle.pmt_trimming.proofs.PassingLemmas.{passed}
use Rattle.pmt_trimming.proofs.SettlingLemmas.{alone-passed, alone-some, alone-none}
use Rattle.pmt_trimming.proofs.pass.Pass.take_alone.Goals as goal

pub returns-in-Some-clause-follows : goal.returns-in-Some-clause-follows
returns-in-Some-clause-follows c = λ T before.
    alone-passed (with_event T c.args.event.now) c.judge.new.self _ c.in_ok-mark.mark c.in-Some.kept (c.in_ok-mark.ensures.follows T before) (c.in_ok-mark.ensures.size ∙ ap length c.requires.alone)
    (sym c.decision.ensures ∙ c.in-Some.is) refl refl refl refl refl

pub returns-in-Some-clause-settles : goal.returns-in-Some-clause-settles
returns-in-Some-clause-settles c = λ T before.
    alone-some (with_event T c.args.event.now) c.judge.new.self c.in_ok-mark.mark c.in-Some.kept _ (c.in_ok-mark.ensures.follows T before) (c.in_ok-mark.ensures.size ∙ ap length c.requires.alone)
    (sym c.decision.ensures ∙ c.in-Some.is) c.in_ok-mark.ensures.settled

pub returns-in_ok-push-in-None-clause-follows : goal.returns-in_ok-push-in-None-clause-follows
returns-in_ok-push-in-None-clause-follows c = λ T before.
    passed (with_event T c.args.event.now) c.judge.new.self _ c.in_ok-mark.mark (c.in_ok-mark.ensures.follows T before) refl refl refl refl c.in_ok-push-in-None.ensures.items

pub returns-in_ok-push-in-None-clause-settles : goal.returns-in_ok-push-in-None-clause-settles
returns-in_ok-push-in-None-clause-settles c = λ T before.
    alone-none (with_event T c.args.event.now) c.judge.new.self c.in_ok-mark.mark _ (c.in_ok-mark.ensures.follows T before) (c.in_ok-mark.ensures.size ∙ ap length c.requires.alone)
    (sym c.decision.ensures ∙ c.in-None.is) c.in_ok-mark.ensures.settled
