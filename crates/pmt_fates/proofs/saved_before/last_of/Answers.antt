use Rattle.pmt_fates.proofs.Prelude.{◌≡◌, ◌+◌, suc, get_or, refl, subst, sym, arith, none-some, slice_get-get_or, IsLastBefore}
use Rattle.pmt_fates.proofs.SaverLemmas.{last-next, last-pushed, last-start}
use Rattle.pmt_fates.proofs.saved_before.last_of.Goals as goal

pub loop-saver-init : goal.loop-saver-init
loop-saver-init c = λ T are. (last-start T, rw c.in_ok-list.ensures.items (record { size = refl; each = λ q x at. absurd (none-some x at) }))

pub loop-saver-preserved : goal.loop-saver-preserved
loop-saver-preserved c = λ T are.
    let i = c.loop-saver.saver-index in
    let saver = get_or c.args.savers.now c.loop-saver.saver-index 0 in
    let next : c.loop-saver.saver-index + 1 ≡ suc c.loop-saver.saver-index = omega arith in
    let before = c.loop-saver.invariant T are in
    let last : IsLastBefore T (suc i) c.later-last.result =
    subst (IsLastBefore T (suc i)) (sym c.later-last.ensures) (last-next T i saver c.loop-saver.last (are.each i saver (slice_get-get_or c.args.savers.now i 0 c.loop-saver-test.true)) before.0)
    in
    (subst (λ n. IsLastBefore T n c.later-last.result) (sym next) last, last-pushed T i c.later-last.result c.loop-saver.list.items c.push.new.self.items c.in_ok-push.ensures.items last before.1)

pub returns : goal.returns
returns c = λ T are.
    let found = (c.loop-saver.invariant T are).1 in
    record { size = omega (arith, found.size, are.size); each = found.each }
