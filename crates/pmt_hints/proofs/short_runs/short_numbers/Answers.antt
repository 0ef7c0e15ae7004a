use Rattle.std.proofs.Common.{◌≡◌, suc, ◌+◌, length, get_or, Some, ap, sym, subst, ◌∙◌, arith}
use Rattle.std.proofs.lemmas.Grind.{elements}
use Rattle.std.specs.Prelude.{slice_get}
use Rattle.std.proofs.lemmas.Option.{slice_get-get_or}
use Rattle.pmt_model.specs.Traces.{act, act_of, event}
use Rattle.pmt_hints.specs.GoingOn.{GoesFurther, IsRest, line_by}
use Rattle.pmt_hints.specs.Hints.{GoesOn, IsOneLineShort}
use Rattle.pmt_hints.specs.Claiming.{AreUpTo}
use Rattle.pmt_hints.specs.Numbers.{flush_at}
use Rattle.pmt_hints.proofs.GoingLemmas.{Tells, any-stores-none, any-stores-up, before-tells, left-tells, lines-none, lines-up, rest-tells}
use Rattle.pmt_hints.proofs.NumberLemmas.{upto-more, upto-none, upto-those}
use Rattle.pmt_hints.proofs.OpenAtLemmas.{flush-thread}
use Rattle.pmt_hints.proofs.ShortLemmas.{lasts-up, short-bound, short-told}
use Rattle.pmt_hints.proofs.StoredAfterLemmas.{fences-none, fences-up}
use Rattle.pmt_hints.proofs.short_runs.short_numbers.Goals as goal

pub loop-index-init : goal.loop-index-init
loop-index-init c =
    let T = c.args.trace.now in
    let labels = c.args.labels.now in
    let P = IsOneLineShort T labels in
    record {
      fences = fences-none T c.new-fences.result c.new-fences.ensures;
      stores = any-stores-none T c.new-stores.result c.new-stores.ensures;
      bound = λ t k small. rw (c.new-rests.ensures.empty) (omega arith);
      rests = lines-none (IsRest T labels) c.new-rests.result c.new-rests.ensures.empty;
      further = lines-none (GoesFurther T labels) c.new-further.result c.new-further.ensures.empty;
      numbers = subst (AreUpTo P 0) (sym c.new-numbers.ensures.items) (upto-none P (λ i p. (short-bound T labels i p).0));
    }

pub loop-index-preserved : goal.loop-index-preserved
loop-index-preserved c =
    let T = c.args.trace.now in
    let labels = c.args.labels.now in
    let es = c.events-events.result.now in
    let i = c.loop-index.index in
    let e = c.index-events-index.result in
    let a = act_of c.format-format.result e.thread e.op in
    let number = i + 1 in
    let long : length c.events-events.result.now ≡ length T.events = ap (λ xs. length xs) c.events-events.ensures.value in
    let at : event T (suc i) ≡ Some e = ap (λ xs. slice_get xs i) (sym c.events-events.ensures.value) ∙ slice_get-get_or es i e (omega arith) ∙ ap Some (sym c.index-events-index.is) in
    let own : act T.format e ≡ a = ap (λ g. act_of g e.thread e.op) (sym c.format-format.ensures.value) in
    let waits : slice_get c.args.waited.now i ≡ Some (get_or c.args.waited.now i 0) = slice_get-get_or c.args.waited.now i 0 (omega (arith, c.requires.waited.size, long)) in
    let safe : slice_get c.args.places.now i ≡ Some (get_or c.args.places.now i 0) = slice_get-get_or c.args.places.now i 0 (omega (arith, c.requires.places.size, long)) in
    let left : Tells (GoesOn T labels) e.thread (suc i) c.line_left-line.result =
    left-tells T labels i c.get-earlier.result _ e c.loop-index.stores c.line_left-line.result (omega arith) at c.line_left-line.ensures.small c.get-earlier.ensures c.line_left-line.ensures.value c.loop-index.invariant.stores
    in
    record {
      fences = fences-up T i _ a c.loop-index.fences c.note_fence.new.self (omega arith) (e, at, own) c.note_fence.ensures c.loop-index.invariant.fences;
      stores = any-stores-up T i _ e a c.loop-index.stores c.note_store.new.self (omega arith) at own c.note_store.ensures c.loop-index.invariant.stores;
      bound = lasts-up (IsRest T labels) i _ e.thread c.is_missed-missed.result c.line_left-line.result c.loop-index.rests c.note_line.new.lines c.loop-index.lasts c.note_last.new.lasts (omega arith) c.loop-index.invariant.rests
          (λ t k. c.in_ok-note_line.ensures t k ∙ ap (λ o. line_by o e.thread number t k (flush_at c.loop-index.rests t k)) c.line_if.ensures) c.note_last.ensures c.loop-index.invariant.bound;
      rests = lines-up (IsRest T labels) i _ e.thread _ c.loop-index.rests c.note_line.new.lines (omega arith)
          (rest-tells T labels c.args.places.now c.args.waited.now i e.thread (get_or c.args.places.now i 0) (get_or c.args.waited.now i 0) _ c.is_missed-missed.result c.line_left-line.result _ c.requires.places c.requires.waited safe waits c.requires.places.size
          c.is_missed-missed.ensures c.line_if.ensures left)
          c.in_ok-note_line.ensures c.loop-index.invariant.rests;
      further = lines-up (GoesFurther T labels) i _ e.thread _ c.loop-index.further c.note_line-in-loop-index.new.lines (omega arith) (before-tells T labels e.thread (suc i) c.line_left-line.result _ c.line_before.ensures left)
          c.in_ok-note_line-2.ensures c.loop-index.invariant.further;
      numbers = upto-more (IsOneLineShort T labels) i _ c.is_short-is_told.result c.loop-index.numbers.items c.push_if.new.numbers.items (omega arith) c.in_ok-push_if.ensures
          (short-told T labels i c.loop-index.fences c.loop-index.rests c.loop-index.further c.is_short-is_told.result e.thread a (e, at, own) c.is_short-is_told.ensures.small (flush-thread c.format-format.result e.thread e.op)
          c.is_short-is_told.ensures.value c.loop-index.invariant.fences c.loop-index.invariant.rests c.loop-index.invariant.further)
          c.loop-index.invariant.numbers;
    }

pub returns : goal.returns
returns c =
    let T = c.args.trace.now in
    let labels = c.args.labels.now in
    let P = IsOneLineShort T labels in
    let long : length c.events-events.result.now ≡ length T.events = ap (λ xs. length xs) c.events-events.ensures.value in
    let all : c.loop-index.index ≡ length T.events = omega (arith, long) in
    upto-those P (length T.events) c.loop-index.numbers.items (λ i p. (short-bound T labels i p).1) (subst (λ n. AreUpTo P n c.loop-index.numbers.items) all c.loop-index.invariant.numbers)

pub returns-in_err-push_if : goal.returns-in_err-push_if
returns-in_err-push_if c = grind (arith, elements)

pub is_missed-missed-requires-clause-waited : goal.is_missed-missed-requires-clause-waited
is_missed-missed-requires-clause-waited c = grind (arith, elements)

pub is_missed-missed-requires-clause-places : goal.is_missed-missed-requires-clause-places
is_missed-missed-requires-clause-places c = grind (arith, elements)

pub returns-in_err-note_line : goal.returns-in_err-note_line
returns-in_err-note_line c = grind (arith, elements)

pub returns-in_err-note_line-2 : goal.returns-in_err-note_line-2
returns-in_err-note_line-2 c = grind (arith, elements)
