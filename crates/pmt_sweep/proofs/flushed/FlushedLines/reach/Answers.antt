use Rattle.std.proofs.Common.{◌<◌, ◌≤◌, length, refl, sym, subst, arith}
use Rattle.pmt_sweep.proofs.FlushedLemmas.{IsReaching, reaching-none, reaching-more, reached}
use Rattle.pmt_sweep.proofs.flushed.FlushedLines.reach.Goals as goal

pub loop-self-init : goal.loop-self-init
loop-self-init c = reaching-none c.args.slot c.args.self.now.lines.items

pub loop-self-preserved : goal.loop-self-preserved
loop-self-preserved c =
    let within : length c.loop-self.self.lines.items ≤ c.args.slot = omega arith in
    subst (IsReaching c.args.slot c.args.self.now.lines.items) (sym c.in_ok-push.ensures.items) (reaching-more c.args.slot c.args.self.now.lines.items c.loop-self.self.lines.items _ refl c.new-threads.ensures within c.loop-self.invariant)

pub returns-in_err-push-clause-alike : goal.returns-in_err-push-clause-alike
returns-in_err-push-clause-alike c =
    let kept : IsReaching c.args.slot c.args.self.now.lines.items c.push.new.self.items = subst (IsReaching c.args.slot c.args.self.now.lines.items) (sym c.in_err-push.ensures.items) c.loop-self.invariant in
    kept.alike

pub returns-clause-many : goal.returns-clause-many
returns-clause-many c =
    let there : c.args.slot < length c.loop-self.self.lines.items = omega arith in
    reached c.args.slot c.args.self.now.lines.items c.loop-self.self.lines.items there c.loop-self.invariant

pub returns-clause-alike : goal.returns-clause-alike
returns-clause-alike c = c.loop-self.invariant.alike
