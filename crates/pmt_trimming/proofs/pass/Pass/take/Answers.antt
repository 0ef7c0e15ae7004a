use Rattle.std.proofs.Common.{refl}
use Rattle.pmt_model.specs.Traces.{with_event}
use Rattle.pmt_trimming.proofs.PassingLemmas.{passed}
use Rattle.pmt_trimming.proofs.pass.Pass.take.Goals as goal

pub returns-clause-follows : goal.returns-clause-follows
returns-clause-follows c = λ T before.
    passed (with_event T c.args.event.now) c.judge.new.self _ c.in_ok-mark.mark (c.in_ok-mark.ensures.follows T before) refl refl refl refl c.in_ok-push.ensures.items
