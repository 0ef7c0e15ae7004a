use Rattle.pmt_fates.proofs.Prelude.{◌≡◌, ◌+◌, ◌<◌, ◌≤◌, List, [], ◌∷◌, ◌++◌, length, take, sym, ap, subst, ◌∙◌, arith, length-take, take_all, take_more, Event, event_limit, AreFew, by_thread, counts_of, IsTally}
use Rattle.pmt_fates.proofs.TallyLemmas.{few-of-thread, few-so-far, rows-told, small-so-far, tally-next, tally-start}
use Rattle.pmt_fates.proofs.figures.figures_of.Goals as goal

pub loop-event-init : goal.loop-event-init
loop-event-init c = tally-start _ _ _ c.none-all.ensures c.no_threads-threads.ensures c.none-fences.ensures.bars c.none-fences.ensures.sizes

pub add-requires : goal.add-requires
add-requires c =
    let T = c.args.trace.now in
    let i = c.loop-event.event-index in
    subst AreFew (sym (c.loop-event.invariant.counts ∙ ap (λ (es : List Event). counts_of (take i es)) c.events-events.ensures.value))
    (few-so-far T i c.events-events.ensures.is_trace)

pub count-requires-clause-few : goal.count-requires-clause-few
count-requires-clause-few c =
    let T = c.args.trace.now in
    let i = c.loop-event.event-index in
    let t = c.event-item.result.thread in
    let below : c.event-item.result.thread < 256 = omega arith in
    subst AreFew (sym (c.loop-event.invariant.each t below ∙ ap (λ (es : List Event). counts_of (by_thread t (take i es))) c.events-events.ensures.value))
    (few-of-thread T i t c.events-events.ensures.is_trace)

pub note-requires-clause-small : goal.note-requires-clause-small
note-requires-clause-small c =
    let es = c.events-events.result.now in
    let i = c.loop-event.event-index in
    let short : length (take i es) ≤ event_limit = omega (arith, length-take i es, ap (λ (xs : List Event). length xs) c.events-events.ensures.value, c.events-events.ensures.is_trace.few) in
    small-so-far (take i es) _ _ _ _ short c.loop-event.invariant

pub loop-event-preserved : goal.loop-event-preserved
loop-event-preserved c =
    let es = c.events-events.result.now in
    let i = c.loop-event.event-index in
    let e = c.event-item.result in
    let next : take i es ++ e ∷ [] ≡ take (i + 1) es = ap (λ (x : Event). take i es ++ x ∷ []) c.event-item.is ∙ sym (take_more es i e c.loop-event-test.true) in
    let below : c.event-item.result.thread < 256 = omega arith in
    subst (λ (xs : List Event). IsTally xs c.add.new.self c.count.new.threads c.note.new.waits c.note.new.fences) next
    (rw (c.add.ensures, c.count.ensures, c.note.ensures.waits, c.note.ensures.fences)
    (tally-next (take i es) e c.loop-event.all c.loop-event.threads c.loop-event.waits c.loop-event.fences below c.loop-event.invariant))

pub returns : goal.returns
returns c =
    let es = c.events-events.result.now in
    let whole : take c.loop-event.event-index es ≡ c.args.trace.now.events = take_all c.loop-event.event-index es (omega arith) ∙ c.events-events.ensures.value in
    let is = subst (λ (xs : List Event). IsTally xs c.loop-event.all c.loop-event.threads c.loop-event.waits c.loop-event.fences) whole c.loop-event.invariant in
    record { all = is.counts; threads = c.in_ok-threads.ensures ∙ rows-told c.args.trace.now.events _ _ _ _ is; fences = is.sizes }
