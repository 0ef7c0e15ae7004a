use Rattle.std.proofs.Common.{◌≡◌, suc, ◌+◌, ◌-◌, ◌<◌, ◌++◌, length, sym, ap, subst, ◌∙◌, arith}
use Rattle.std.specs.Prelude.{slice_index}
use Rattle.pmt_sweep.specs.Entries.{lost_at}
use Rattle.pmt_sweep.proofs.LostLemmas.{AreLateTo, late-none, late-next, late-all}
use Rattle.pmt_sweep.proofs.lost.lost_stores.Goals as goal

pub loop-number-init : goal.loop-number-init
loop-number-init c = λ T marked after.
    let start : c.args.before ≡ c.args.before + 1 - 1 = omega arith in
    subst (λ n. AreLateTo T n c.new-lost.result.items) start (subst (AreLateTo T c.args.before) (sym c.new-lost.ensures.items) (late-none T c.args.before after))

pub loop-number-preserved : goal.loop-number-preserved
loop-number-preserved c = λ T marked after.
    let number = c.loop-number.number in
    let e : suc (number - 1) ≡ number = omega (arith, c.loop-number.auto.number) in
    let next : suc (number - 1) ≡ number + 1 - 1 = omega (arith, e) in
    let before : number - 1 < length T.events = omega (arith, e, marked.many, c.loop-number-test.true) in
    let adds = c.in_ok-push_lost.ensures ∙ ap (λ k. c.loop-number.lost.items ++ lost_at k (slice_index c.args.entries.now number)) (sym e) in
    subst (λ k. AreLateTo T k c.push_lost.new.lost.items) next
    (late-next T (number - 1) c.args.entries.now c.loop-number.lost.items c.push_lost.new.lost.items (slice_index c.args.entries.now number) marked before (ap (slice_index c.args.entries.now) (sym e)) adds (c.loop-number.invariant T marked after))

pub returns : goal.returns
returns c = λ T marked after. late-all T (c.loop-number.number - 1) c.loop-number.lost.items (omega (arith, marked.many, c.loop-number-test.false)) (c.loop-number.invariant T marked after)
