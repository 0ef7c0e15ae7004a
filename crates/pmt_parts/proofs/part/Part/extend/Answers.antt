use Rattle.pmt_parts.proofs.Prelude.{◌≡◌, ◌<◌, length, Some, get_or, sym, ap, ◌∙◌, arith, slice_get-get_or, Recording}
use Rattle.pmt_parts.proofs.GrowLemmas.{events-more, next-comes}
use Rattle.pmt_parts.proofs.part.Part.extend.Goals as goal

pub loop-event-preserved : goal.loop-event-preserved
loop-event-preserved c =
    let l = c.loop-event in
    let i = l.event-index in
    let e = c.event-item.result in
    let seen = c.events-event-items.ensures.value in
    let within : i < length c.args.block.now.events = omega (arith, c.loop-event-test.true, ap (λ xs. length xs) seen) in
    let is : get_or c.args.block.now.events i e ≡ e = ap (λ xs. get_or xs i e) (sym seen) ∙ sym c.event-item.is in
    let pushed = c.in_ok-push.ensures in
    record {
      format = ap (λ (P : Recording). P.format) pushed.trace ∙ l.invariant.format;
      events = ap (λ (P : Recording). P.events) pushed.trace ∙ events-more c.args.self.now.trace.events c.args.block.now.events l.self.trace.events i e within is l.invariant.events;
      end = omega (arith, pushed.end, l.invariant.end);
      place = pushed.same.0 ∙ l.invariant.place;
      before = pushed.same.1 ∙ l.invariant.before;
      part = λ T ranges it comes. pushed.part T ranges (l.invariant.part T ranges it comes)
          (next-comes T c.args.block.now c.args.self.now.end l.self.end i e comes l.invariant.end (slice_get-get_or c.args.block.now.events i e within ∙ ap Some is));
    }
