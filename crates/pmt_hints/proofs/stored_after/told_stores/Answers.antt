use Rattle.std.proofs.Common.{◌≡◌, suc, ◌<◌, length, Some, ap, sym, subst, ◌∙◌, arith}
use Rattle.std.specs.Prelude.{slice_get}
use Rattle.std.proofs.lemmas.Option.{slice_get-get_or}
use Rattle.pmt_model.specs.Traces.{act, act_of, event}
use Rattle.pmt_hints.specs.Claiming.{AreUpTo}
use Rattle.pmt_hints.specs.Hints.{IsStoredAfterFlush}
use Rattle.pmt_hints.proofs.GoingLemmas.{lines-none}
use Rattle.pmt_hints.proofs.LeftLemmas.{ended-up, stored-told}
use Rattle.pmt_hints.proofs.NumberLemmas.{upto-more, upto-none, upto-those}
use Rattle.pmt_hints.proofs.StoredAfterLemmas.{stored-bound}
use Rattle.pmt_hints.proofs.stored_after.told_stores.Goals as goal

pub loop-index-init : goal.loop-index-init
loop-index-init c =
    let P = IsStoredAfterFlush c.args.trace.now in
    record { last = lines-none _ c.new-last.result c.new-last.ensures.empty; numbers = subst (AreUpTo P 0) (sym c.new-numbers.ensures.items) (upto-none P (λ i p. (stored-bound c.args.trace.now i p).0)) }

pub loop-index-preserved : goal.loop-index-preserved
loop-index-preserved c =
    let T = c.args.trace.now in
    let fences = c.args.fences.now in
    let ends = c.args.ends.now in
    let es = c.events-events.result.now in
    let i = c.loop-index.index in
    let e = c.index-events-index.result in
    let a = act_of c.format-format.result e.thread e.op in
    let within : c.loop-index.index < length c.events-events.result.now = omega arith in
    let at : event T (suc i) ≡ Some e = ap (λ xs. slice_get xs i) (sym c.events-events.ensures.value) ∙ slice_get-get_or es i e within ∙ ap Some (sym c.index-events-index.is) in
    let own : act T.format e ≡ a = ap (λ g. act_of g e.thread e.op) (sym c.format-format.ensures.value) in
    let told =
    stored-told T c.args.waited.now c.args.places.now fences c.args.flushes.now c.requires.places c.requires.waited c.requires.fences c.requires.flushes ends c.requires.ends i _ e c.loop-index.last a c.is_left_first-is_left.result c.is_after_open-is_told.result
    (omega arith) at own c.is_left_first-is_left.ensures c.is_after_open-is_told.ensures c.loop-index.invariant.last
    in
    record {
      last = ended-up T fences ends i _ a c.is_ended-is_ended.result c.loop-index.last c.note_if.new.last (omega arith) (e, at, own) c.is_ended-is_ended.ensures c.in_ok-note_if.ensures c.loop-index.invariant.last;
      numbers = upto-more (IsStoredAfterFlush T) i _ c.is_after_open-is_told.result c.loop-index.numbers.items c.push_if.new.numbers.items (omega arith) c.in_ok-push_if.ensures told c.loop-index.invariant.numbers;
    }

pub returns : goal.returns
returns c =
    let T = c.args.trace.now in
    let P = IsStoredAfterFlush T in
    let long : length c.events-events.result.now ≡ length T.events = ap (λ xs. length xs) c.events-events.ensures.value in
    let all : c.loop-index.index ≡ length T.events = omega (arith, long) in
    upto-those P (length T.events) c.loop-index.numbers.items (λ i p. (stored-bound T i p).1) (subst (λ n. AreUpTo P n c.loop-index.numbers.items) all c.loop-index.invariant.numbers)

pub is_left_first-is_left-requires-clause-waited : goal.is_left_first-is_left-requires-clause-waited
is_left_first-is_left-requires-clause-waited c =
    let long : length c.events-events.result.now ≡ length c.args.trace.now.events = ap (λ xs. length xs) c.events-events.ensures.value in
    omega (arith, c.requires.waited.size, long)

pub is_left_first-is_left-requires-clause-places : goal.is_left_first-is_left-requires-clause-places
is_left_first-is_left-requires-clause-places c =
    let long : length c.events-events.result.now ≡ length c.args.trace.now.events = ap (λ xs. length xs) c.events-events.ensures.value in
    omega (arith, c.requires.places.size, long)
