use Rattle.pmt_fates.proofs.Prelude.{rules, ◌≡◌, ◌+◌, suc, ◌<◌, length, Some, refl, subst, sym, ap, ◌∙◌, arith, slice_get, slice_index, slice_get-get_or, event, past_of, TellsSafe, AreSavers}
use Rattle.pmt_fates.proofs.SaverLemmas.{savers-next, savers-start}
use Rattle.pmt_fates.proofs.saved_before.savers_of.Goals as goal

pub loop-index-init : goal.loop-index-init
loop-index-init c =
    let T = c.args.trace.now in
    let long : length c.events-events.result.now + 1 ≡ past_of T = omega (arith, ap (λ xs. length xs) c.events-events.ensures.value) in
    savers-start T _ c.in_ok-savers.savers.items long (c.in_ok-savers.ensures.items_if_clones_equal (λ y is. search rules))

pub loop-index-preserved : goal.loop-index-preserved
loop-index-preserved c =
    let T = c.args.trace.now in
    let es = c.events-events.result.now in
    let i = c.loop-index.index in
    let e = c.index-events-index.result in
    let s = slice_index c.args.safe.now c.loop-index.index in
    let long : length c.events-events.result.now ≡ length T.events = ap (λ xs. length xs) c.events-events.ensures.value in
    let within : c.loop-index.index < length c.events-events.result.now = omega arith in
    let inside : c.loop-index.index < length c.args.safe.now = omega (arith, long, c.requires.size) in
    let at : event T (suc i) ≡ Some e = ap (λ xs. slice_get xs i) (sym c.events-events.ensures.value) ∙ slice_get-get_or es i e within ∙ ap Some (sym c.index-events-index.is) in
    let tells : TellsSafe T (suc i) s = c.requires.each i s (slice_get-get_or c.args.safe.now i 0 inside) in
    savers-next T i _ s e.thread T.format e.op c.loop-index.savers.items c.note_saver.new.savers.items (e, at, refl) tells (omega arith) c.note_saver.ensures c.loop-index.invariant

pub returns : goal.returns
returns c =
    let all : c.loop-index.index ≡ length c.args.trace.now.events = omega (arith, ap (λ xs. length xs) c.events-events.ensures.value) in
    subst (λ n. AreSavers c.args.trace.now n c.loop-index.savers.items) all c.loop-index.invariant
