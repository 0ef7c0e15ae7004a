use Rattle.pmt_fates.proofs.Prelude.{◌≡◌, ◌<◌, suc, length, map, Some, ap, sym, ◌∙◌, arith, elements, slice_get, slice_index, slice_get-get_or, slice_get_within, event, event_of, is_listed, op_fate}
use Rattle.pmt_fates.proofs.FateLemmas.{fates-next}
use Rattle.pmt_fates.proofs.fate.fates_of.Goals as goal

pub loop-index-preserved : goal.loop-index-preserved
loop-index-preserved c =
    let T = c.args.trace.now in
    let es = c.events-events.result.now in
    let i = c.loop-index.index in
    let e = c.index-events-index.result in
    let told = c.in_ok-is_told.is_told.items in
    let dropped = c.in_ok-is_dropped.is_dropped.items in
    let a = c.index-lost.result.now in
    let b = c.index-idle.result.now in
    let within : c.loop-index.index < length c.events-events.result.now = omega arith in
    let at : event T (suc i) ≡ Some e = ap (λ xs. slice_get xs i) (sym c.events-events.ensures.value) ∙ slice_get-get_or es i e within ∙ ap Some (sym c.index-events-index.is) in
    let is_told : a ≡ is_listed c.args.told.now (suc i) =
    c.in_ok-is_told.ensures.each i a (slice_get-get_or told i a (omega (arith, c.in_ok-is_told.ensures.size)) ∙ ap Some (sym c.index-lost.ensures))
    in
    let is_dropped : b ≡ is_listed (map event_of c.args.dropped.now) (suc i) =
    c.in_ok-is_dropped.ensures.each i b (slice_get-get_or dropped i b (omega (arith, c.in_ok-is_dropped.ensures.size)) ∙ ap Some (sym c.index-idle.ensures))
    in
    let fate : c.fate_of-fate.result ≡ op_fate e.op a b (length es) (slice_index c.args.safe.now i) (slice_index c.args.waited.now i) = c.fate_of-fate.ensures in
    fates-next T c.args.told.now (map event_of c.args.dropped.now) c.args.safe.now c.args.waited.now i e a b c.fate_of-fate.result c.loop-index.fates.items c.push.new.self.items at is_told is_dropped
    (fate ∙ ap (λ xs. op_fate e.op a b (length xs) (slice_index c.args.safe.now i) (slice_index c.args.waited.now i)) c.events-events.ensures.value)
    c.in_ok-push.ensures.items c.loop-index.invariant

pub returns : goal.returns
returns c =
    let size : length c.events-events.result.now ≡ length c.args.trace.now.events = ap (λ xs. length xs) c.events-events.ensures.value in
    record {
      safe = c.args.safe.now;
      are_safe = c.requires.safe;
      waited = c.args.waited.now;
      are_waited = c.requires.waited;
      size = omega (arith, size, c.loop-index.invariant.size);
      each = λ n e at. c.loop-index.invariant.each n e (omega (arith, size, slice_get_within c.args.trace.now.events n e at)) at;
    }

pub index-lost-requires : goal.index-lost-requires
index-lost-requires c = grind (arith, elements)

pub index-idle-requires : goal.index-idle-requires
index-idle-requires c = grind (arith, elements)

pub bounds-safe-index : goal.bounds-safe-index
bounds-safe-index c = grind (arith, elements)

pub bounds-waited-index : goal.bounds-waited-index
bounds-waited-index c = grind (arith, elements)
