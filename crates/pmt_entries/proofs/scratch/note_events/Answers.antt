use Rattle.std.proofs.Common.{ap, ◌∙◌, arith}
use Rattle.pmt_laws.specs.Prelude.{list_any, Event}
use Rattle.std.proofs.lemmas.List.{take_all}
use Rattle.pmt_hints.specs.Claiming.{claim_at, or_so}
use Rattle.pmt_hints.proofs.ClaimLemmas.{or_so-none}
use Rattle.pmt_entries.specs.Sites.{event_touches, op_touches}
use Rattle.pmt_entries.proofs.ScratchLemmas.{any-more}
use Rattle.pmt_entries.proofs.scratch.note_events.Goals as goal

pub loop-event-init : goal.loop-event-init
loop-event-init c = λ m. or_so-none (claim_at c.args.lines.now m)

pub loop-event-preserved : goal.loop-event-preserved
loop-event-preserved c = λ m.
    let es = c.args.events.now in
    let i = c.loop-event.event-index in
    let e = c.event-item.result in
    let old = claim_at c.loop-event.lines m in
    let step = c.in_ok-note_op.ensures m ∙ ap (λ (x : Event). or_so (op_touches c.args.format x.op m) old) c.event-item.is in
    any-more (event_touches c.args.format m) es i e (claim_at c.args.lines.now m) old (claim_at c.note_op.new.lines m) c.loop-event-test.true step (c.loop-event.invariant m)

pub returns : goal.returns
returns c = λ m.
    c.loop-event.invariant m ∙ ap (λ es. or_so (list_any (event_touches c.args.format m) es) (claim_at c.args.lines.now m)) (take_all c.loop-event.event-index c.args.events.now (omega arith))
