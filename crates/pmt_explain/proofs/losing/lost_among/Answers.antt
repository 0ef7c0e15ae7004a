use Rattle.std.proofs.Common.{◌≡◌, length, refl, subst, arith}
use Rattle.pmt_explain.specs.Crashes.{AreLostAmong}
use Rattle.pmt_explain.proofs.LostInLemmas.{among-next}
use Rattle.pmt_explain.proofs.losing.lost_among.Goals as goal

pub loop-store-preserved : goal.loop-store-preserved
loop-store-preserved c =
    among-next c.args.trace.now c.args.place c.args.full c.args.last.now c.loop-store.store-index _ c.loop-store.lost.items c.push_if.new.lost.items c.is_lost.result refl c.is_lost.ensures c.in_ok-push_if.ensures c.loop-store.invariant

pub returns : goal.returns
returns c =
    let end : c.loop-store.store-index ≡ length c.args.last.now = omega (arith, c.loop-store.auto.store-index-end, c.loop-store-test.false) in
    subst (λ k. AreLostAmong c.args.trace.now c.args.place c.args.full c.args.last.now k c.loop-store.lost.items) end c.loop-store.invariant
