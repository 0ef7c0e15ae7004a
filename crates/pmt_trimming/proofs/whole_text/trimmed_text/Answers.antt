use Rattle.std.proofs.Common.{◌≡◌, List, length, Err, refl, ap, subst, ◌∙◌, rules, arith}
use Rattle.std.proofs.lemmas.Grind.{elements}
use Rattle.pmt_laws.specs.Prelude.{Event, Layout, Recording, empty, with_event, with_events}
use Rattle.pmt_taking.specs.declared.taking.TakeError.TheVariants.{OutOfMemory, Source}
use Rattle.pmt_taking.specs.Sourcing.{shown_by}
use Rattle.pmt_taking.proofs.SourceRunLemmas.{counts-refused, so_far-more, so_far-none}
use Rattle.pmt_trimming.specs.Streaming.{IsWholeOf}
use Rattle.pmt_trimming.proofs.WholeTextLemmas.{text-whole, text-fault, counts-fault, so_far-ready, refused-told, refused-counted}
use Rattle.pmt_trimming.proofs.StreamLemmas.{lent-is}
use Rattle.pmt_trimming.proofs.whole_text.trimmed_text.Goals as goal

pub loop-block-init : goal.loop-block-init
loop-block-init g c =
    let source = g.S.EventSource in
    let shown = shown_by source.coming source.state source.known_format source.failures source.room in
    let said = c.in_ok-format.ensures in (
      empty c.in_ok-format.format,
      so_far-none (shown c.args.source.now) (shown c.format.new.self) c.in_ok-format.format said.taken said.told said.known said.failures (g.met.S.EventSource.few c.format.new.self),
      c.in_ok-whole.ensures,
      c.in_ok-block.ensures,
      said.within,
    )

pub loop-block-preserved : goal.loop-block-preserved
loop-block-preserved g c =
    let source = g.S.EventSource in
    let shown = shown_by source.coming source.state source.known_format source.failures source.room in
    let said = c.in_ok-event.ensures in
    let taken = rw c.in-Some.is at said.taken in
    let told = rw c.in-Some.is at said.told in
    let counted = rw c.in-Some.is at said.failures in
    let fewer = rw c.in-Some.is at said.room in
    let of = c.loop-block.invariant in
    let more = with_event of.0 c.in-Some.event in
    let one = so_far-more (shown c.args.source.now) (shown c.loop-block.source) (shown c.next.new.self) of.0 c.in-Some.event of.1 taken told said.kept counted fewer in
    let ready = c.in_ok-take_ready.ensures in (
      with_events more c.take_ready.new.trace.events,
      so_far-ready (shown c.args.source.now) (shown c.next.new.self) (shown c.take_ready.new.self) more c.loop-block.block c.take_ready.new.trace (source.lent c.take_ready.new.self) of.3 one ready.taken ready.room ready.state ready.format ready.failures,
      subst (λ (es : List Event). IsWholeOf (with_events more es) c.take_all.new.self) c.events.ensures.value (c.in_ok-take_all.ensures more (c.in_ok-take.ensures of.0 of.2)),
      c.in_ok-block-2.ensures ∙ ap (λ (f : Layout). empty f) (ap (λ (R : Recording). R.format) ready.taken.added ∙ ap (λ (R : Recording). R.format) of.3),
      (λ first read. ready.within first (said.within first (of.4 first read))),
    )

pub returns-clause-text : goal.returns-clause-text
returns-clause-text g c =
    let of = c.loop-block.invariant in
    let taken = rw c.in_default.is at c.in_ok-event.ensures.taken in
    text-whole _ _ of.0 _ of.1.given of.1.format taken.0 (c.into_text.ensures of.0 of.2)

pub take-requires-clause-line : goal.take-requires-clause-line
take-requires-clause-line g c =
    let lent = rw c.in-Some.is at c.in_ok-event.ensures.lent in
    lent-is c.in-Some.event _ _ lent c.last_line.ensures

pub take-requires-clause-whole : goal.take-requires-clause-whole
take-requires-clause-whole g c = let of = c.loop-block.invariant in (of.0, of.2)

pub returns-in_err-take-clause-failures : goal.returns-in_err-take-clause-failures
returns-in_err-take-clause-failures g c =
    let reads = g.S.EventSource.failures in
    let counted = rw c.in-Some.is at c.in_ok-event.ensures.failures in
    let refused : c.from_residual-in_err-take.result ≡ Err OutOfMemory = search rules in
    counts-refused (reads c.args.source.now) (reads c.loop-block.source) (reads c.next.new.self) _ _ c.loop-block.invariant.1.same_reads counted refused

pub returns-in_err-event-clause-fault : goal.returns-in_err-event-clause-fault
returns-in_err-event-clause-fault g c =
    let of = c.loop-block.invariant in
    let refused : c.from_residual-in_err-event.result ≡ Err (Source c.in_err-event.field-0.0) = search rules in
    text-fault _ _ of.0 c.in_err-event.field-0.0 _ of.1.given c.in_err-event.ensures.taken refused

pub returns-in_err-event-clause-failures : goal.returns-in_err-event-clause-failures
returns-in_err-event-clause-failures g c =
    let refused : c.from_residual-in_err-event.result ≡ Err (Source c.in_err-event.field-0.0) = search rules in
    counts-fault _ _ _ c.in_err-event.field-0.0 _ c.loop-block.invariant.1.same_reads c.in_err-event.ensures.failures refused

pub take-requires-clause-room : goal.take-requires-clause-room
take-requires-clause-room g c =
    let of = c.loop-block.invariant in
    let fewer = rw c.in-Some.is at c.in_ok-event.ensures.room in
    omega (arith, of.1.roomy, of.2.pass.all, fewer)

pub take_all-requires-clause-whole : goal.take_all-requires-clause-whole
take_all-requires-clause-whole g c =
    let of = c.loop-block.invariant in
    (with_event of.0 c.in-Some.event, c.in_ok-take.ensures of.0 of.2)

pub take_all-requires-clause-room : goal.take_all-requires-clause-room
take_all-requires-clause-room g c =
    let source = g.S.EventSource in
    let shown = shown_by source.coming source.state source.known_format source.failures source.room in
    let said = c.in_ok-event.ensures in
    let of = c.loop-block.invariant in
    let one = so_far-more (shown c.args.source.now) (shown c.loop-block.source) (shown c.next.new.self) of.0 c.in-Some.event of.1 (rw c.in-Some.is at said.taken) (rw c.in-Some.is at said.told) said.kept (rw c.in-Some.is at said.failures) (rw c.in-Some.is at said.room) in
    let taken = c.in_ok-take.ensures of.0 of.2 in
    let few : length c.loop-block.block.events ≡ 0 = ap (λ (R : Recording). length R.events) of.3 in
    omega (arith, one.roomy, taken.pass.all, c.in_ok-take_ready.ensures.room, few, ap length c.events.ensures.value)

pub returns-in_err-take-clause-told : goal.returns-in_err-take-clause-told
returns-in_err-take-clause-told g c =
    let source = g.S.EventSource in
    let shown = shown_by source.coming source.state source.known_format source.failures source.room in
    let said = c.in_ok-event.ensures in
    let of = c.loop-block.invariant in
    let one = so_far-more (shown c.args.source.now) (shown c.loop-block.source) (shown c.next.new.self) of.0 c.in-Some.event of.1 (rw c.in-Some.is at said.taken) (rw c.in-Some.is at said.told) said.kept (rw c.in-Some.is at said.failures) (rw c.in-Some.is at said.room) in
    let refused : c.from_residual-in_err-take.result ≡ Err OutOfMemory = search rules in
    refused-told (shown c.args.source.now) (shown c.next.new.self) _ _ _ one refl refused

pub returns-in_err-take_ready-clause-told : goal.returns-in_err-take_ready-clause-told
returns-in_err-take_ready-clause-told g c =
    let source = g.S.EventSource in
    let shown = shown_by source.coming source.state source.known_format source.failures source.room in
    let said = c.in_ok-event.ensures in
    let of = c.loop-block.invariant in
    let one = so_far-more (shown c.args.source.now) (shown c.loop-block.source) (shown c.next.new.self) of.0 c.in-Some.event of.1 (rw c.in-Some.is at said.taken) (rw c.in-Some.is at said.told) said.kept (rw c.in-Some.is at said.failures) (rw c.in-Some.is at said.room) in
    let refused : c.from_residual-in_err-take_ready.result ≡ Err OutOfMemory = search rules in
    refused-told (shown c.args.source.now) (shown c.next.new.self) _ _ _ one c.in_err-take_ready.ensures.state refused

pub returns-in_err-take_ready-clause-failures : goal.returns-in_err-take_ready-clause-failures
returns-in_err-take_ready-clause-failures g c =
    let source = g.S.EventSource in
    let shown = shown_by source.coming source.state source.known_format source.failures source.room in
    let said = c.in_ok-event.ensures in
    let of = c.loop-block.invariant in
    let one = so_far-more (shown c.args.source.now) (shown c.loop-block.source) (shown c.next.new.self) of.0 c.in-Some.event of.1 (rw c.in-Some.is at said.taken) (rw c.in-Some.is at said.told) said.kept (rw c.in-Some.is at said.failures) (rw c.in-Some.is at said.room) in
    let refused : c.from_residual-in_err-take_ready.result ≡ Err OutOfMemory = search rules in
    refused-counted (shown c.args.source.now) (shown c.next.new.self) _ _ _ one c.in_err-take_ready.ensures.failures refused

pub returns-in_err-take_all-clause-told : goal.returns-in_err-take_all-clause-told
returns-in_err-take_all-clause-told g c =
    let source = g.S.EventSource in
    let shown = shown_by source.coming source.state source.known_format source.failures source.room in
    let said = c.in_ok-event.ensures in
    let of = c.loop-block.invariant in
    let one = so_far-more (shown c.args.source.now) (shown c.loop-block.source) (shown c.next.new.self) of.0 c.in-Some.event of.1 (rw c.in-Some.is at said.taken) (rw c.in-Some.is at said.told) said.kept (rw c.in-Some.is at said.failures) (rw c.in-Some.is at said.room) in
    let refused : c.from_residual-in_err-take_all.result ≡ Err OutOfMemory = search rules in
    refused-told (shown c.args.source.now) (shown c.next.new.self) _ _ _ one c.in_ok-take_ready.ensures.state refused

pub returns-in_err-take_all-clause-failures : goal.returns-in_err-take_all-clause-failures
returns-in_err-take_all-clause-failures g c =
    let source = g.S.EventSource in
    let shown = shown_by source.coming source.state source.known_format source.failures source.room in
    let said = c.in_ok-event.ensures in
    let of = c.loop-block.invariant in
    let one = so_far-more (shown c.args.source.now) (shown c.loop-block.source) (shown c.next.new.self) of.0 c.in-Some.event of.1 (rw c.in-Some.is at said.taken) (rw c.in-Some.is at said.told) said.kept (rw c.in-Some.is at said.failures) (rw c.in-Some.is at said.room) in
    let refused : c.from_residual-in_err-take_all.result ≡ Err OutOfMemory = search rules in
    refused-counted (shown c.args.source.now) (shown c.next.new.self) _ _ _ one c.in_ok-take_ready.ensures.failures refused

pub returns-in_err-block-2-clause-told : goal.returns-in_err-block-2-clause-told
returns-in_err-block-2-clause-told g c =
    let source = g.S.EventSource in
    let shown = shown_by source.coming source.state source.known_format source.failures source.room in
    let said = c.in_ok-event.ensures in
    let of = c.loop-block.invariant in
    let one = so_far-more (shown c.args.source.now) (shown c.loop-block.source) (shown c.next.new.self) of.0 c.in-Some.event of.1 (rw c.in-Some.is at said.taken) (rw c.in-Some.is at said.told) said.kept (rw c.in-Some.is at said.failures) (rw c.in-Some.is at said.room) in
    let refused : c.from_residual-in_err-block-2.result ≡ Err OutOfMemory = search rules in
    refused-told (shown c.args.source.now) (shown c.next.new.self) _ _ _ one c.in_ok-take_ready.ensures.state refused

pub returns-in_err-block-2-clause-failures : goal.returns-in_err-block-2-clause-failures
returns-in_err-block-2-clause-failures g c =
    let source = g.S.EventSource in
    let shown = shown_by source.coming source.state source.known_format source.failures source.room in
    let said = c.in_ok-event.ensures in
    let of = c.loop-block.invariant in
    let one = so_far-more (shown c.args.source.now) (shown c.loop-block.source) (shown c.next.new.self) of.0 c.in-Some.event of.1 (rw c.in-Some.is at said.taken) (rw c.in-Some.is at said.told) said.kept (rw c.in-Some.is at said.failures) (rw c.in-Some.is at said.room) in
    let refused : c.from_residual-in_err-block-2.result ≡ Err OutOfMemory = search rules in
    refused-counted (shown c.args.source.now) (shown c.next.new.self) _ _ _ one c.in_ok-take_ready.ensures.failures refused

pub take_ready-requires-clause-roomy : goal.take_ready-requires-clause-roomy
take_ready-requires-clause-roomy g c = grind (arith, elements)

pub returns-in_err-take_ready-clause-fault : goal.returns-in_err-take_ready-clause-fault
returns-in_err-take_ready-clause-fault g c = grind (arith, elements)
