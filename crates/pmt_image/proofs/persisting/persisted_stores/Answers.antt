use Rattle.pmt_image.proofs.Prelude.{◌<◌, ◌≤◌, length, sym, ap, ◌∙◌, add-one, arith, Some, elements, slice_get-get_or, persisted_by}
use Rattle.pmt_image.proofs.StoreLemmas.{count-few, found-next, fault-found}
use Rattle.pmt_image.proofs.persisting.persisted_stores.Goals as goal

pub take_op-taken-requires-clause-few : goal.take_op-taken-requires-clause-few
take_op-taken-requires-clause-few c = λ l.
    let few : length c.args.trace.now.events ≤ 1000000 = c.len.ensures.is_trace.few in
    omega (arith, c.loop-index.invariant.found.seen_are l, count-few c.args.trace.now l c.loop-index.index, c.loop-index-test.true, c.min-place.ensures, c.len.ensures.value, few)

pub loop-index-preserved : goal.loop-index-preserved
loop-index-preserved c =
    let es = c.events-events.result.now in
    let n = c.loop-index.index in
    let e = c.index-events-index.result in
    let inside : n < length es = omega (arith, c.loop-index-test.true, c.min-place.ensures, c.len.ensures.value, ap (λ xs. length xs) c.events-events.ensures.value) in
    let x = found-next c.args.trace.now c.format-format.result es n _ e (persisted_by c.args.crash.now) c.args.pool c.loop-index.seen c.take_op-taken.new.seen c.loop-index.stores.items c.take_op-taken.new.stores.items c.format-format.ensures.value c.events-events.ensures.value (add-one n)
    (slice_get-get_or es n e inside ∙ ap Some (sym c.index-events-index.is)) c.in-Ok.ensures.found c.in-Ok.ensures.inside c.loop-index.invariant.found c.loop-index.invariant.inside in
    record { found = x.0; inside = x.1 }

pub returns-in-Err-clause-fault : goal.returns-in-Err-clause-fault
returns-in-Err-clause-fault c =
    let es = c.events-events.result.now in
    let n = c.loop-index.index in
    let e = c.index-events-index.result in
    let inside : n < length es = omega (arith, c.loop-index-test.true, c.min-place.ensures, c.len.ensures.value, ap (λ xs. length xs) c.events-events.ensures.value) in
    fault-found c.args.trace.now c.format-format.result es n _ c.args.crash.now.place e c.args.pool c.in-Err.fault c.format-format.ensures.value c.events-events.ensures.value (add-one n)
    (slice_get-get_or es n e inside ∙ ap Some (sym c.index-events-index.is)) (omega (arith, c.loop-index-test.true, c.min-place.ensures)) c.loop-index.invariant.inside c.in-Err.ensures.fault

pub returns-clause-inside : goal.returns-clause-inside
returns-clause-inside c = grind (arith, elements)

pub returns-clause-image : goal.returns-clause-image
returns-clause-image c = grind (arith, elements)
