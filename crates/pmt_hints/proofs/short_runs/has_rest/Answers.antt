use Rattle.std.proofs.Common.{◌≡◌, suc, ◌+◌, length, get_or, Some, ap, refl, sym, ◌∙◌, arith}
use Rattle.std.specs.Prelude.{slice_get}
use Rattle.std.proofs.lemmas.Option.{slice_get-get_or}
use Rattle.pmt_model.specs.Traces.{act, act_of, event}
use Rattle.pmt_hints.specs.GoingOn.{line_left}
use Rattle.pmt_hints.specs.Hints.{GoesOn}
use Rattle.pmt_hints.proofs.GoingLemmas.{Tells, any-stores-none, any-stores-up, left-tells, no-rest, rest-bound, rest-tells}
use Rattle.pmt_hints.proofs.short_runs.has_rest.Goals as goal

pub loop-index-init : goal.loop-index-init
loop-index-init c =
    let T = c.args.trace.now in
    record { stores = any-stores-none T c.new-stores.result c.new-stores.ensures; none = λ t m i upto h. absurd (omega (arith, upto, (rest-bound T c.args.labels.now t m i h).0)) }

pub loop-index-preserved : goal.loop-index-preserved
loop-index-preserved c =
    let T = c.args.trace.now in
    let labels = c.args.labels.now in
    let es = c.events-events.result.now in
    let i = c.loop-index.index in
    let e = c.index-events-index.result in
    let a = act_of c.format-format.result e.thread e.op in
    let long : length c.events-events.result.now ≡ length T.events = ap (λ xs. length xs) c.events-events.ensures.value in
    let at : event T (suc i) ≡ Some e = ap (λ xs. slice_get xs i) (sym c.events-events.ensures.value) ∙ slice_get-get_or es i e (omega arith) ∙ ap Some (sym c.index-events-index.is) in
    let own : act T.format e ≡ a = ap (λ g. act_of g e.thread e.op) (sym c.format-format.ensures.value) in
    let waits : slice_get c.args.waited.now i ≡ Some (get_or c.args.waited.now i 0) = slice_get-get_or c.args.waited.now i 0 (omega (arith, c.requires.waited.size, long)) in
    let safe : slice_get c.args.places.now i ≡ Some (get_or c.args.places.now i 0) = slice_get-get_or c.args.places.now i 0 (omega (arith, c.requires.places.size, long)) in
    let line = line_left T labels c.get-earlier.result e.thread e.op (i + 1) in
    let left : Tells (GoesOn T labels) e.thread (suc i) line =
    left-tells T labels i c.get-earlier.result _ e c.loop-index.stores line (omega arith) at c.rest_left-line.ensures.small c.get-earlier.ensures refl c.loop-index.invariant.stores
    in
    record {
      stores = any-stores-up T i _ e a c.loop-index.stores c.note_store.new.self (omega arith) at own c.note_store.ensures c.loop-index.invariant.stores;
      none = no-rest T labels i e.thread c.rest_left-line.result (sym c.is_some.ensures ∙ c.if-is_some.false)
          (rest-tells T labels c.args.places.now c.args.waited.now i e.thread (get_or c.args.places.now i 0) (get_or c.args.waited.now i 0) _ c.is_missed-missed.result line c.rest_left-line.result c.requires.places c.requires.waited safe waits c.requires.places.size
          c.is_missed-missed.ensures c.rest_left-line.ensures.value left)
          c.loop-index.invariant.none;
    }

pub returns : goal.returns
returns c = λ same t l i h.
    let long : length c.events-events.result.now ≡ length c.args.trace.now.events = ap (λ xs. length xs) c.events-events.ensures.value in
    c.loop-index.invariant.none t l i (omega (arith, long, (rest-bound c.args.trace.now c.args.labels.now t l i h).1)) h
