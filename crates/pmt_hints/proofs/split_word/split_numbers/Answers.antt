use Rattle.std.proofs.Common.{◌≡◌, ◌<◌, suc, length, Some, ap, sym, subst, ◌∙◌, arith}
use Rattle.std.specs.Prelude.{slice_get}
use Rattle.std.proofs.lemmas.Option.{slice_get-get_or}
use Rattle.pmt_model.specs.Traces.{event}
use Rattle.pmt_hints.specs.Hints.{IsSplitWord}
use Rattle.pmt_hints.specs.Claiming.{AreUpTo}
use Rattle.pmt_hints.proofs.NumberLemmas.{upto-more, upto-none, upto-those}
use Rattle.pmt_hints.proofs.SplitLemmas.{split-bound, split-told, stores-none, stores-up}
use Rattle.pmt_hints.proofs.split_word.split_numbers.Goals as goal

pub loop-index-init : goal.loop-index-init
loop-index-init c =
    let P = IsSplitWord c.args.trace.now c.args.labels.now in
    record {
      stores = stores-none c.args.trace.now c.new-stores.result c.new-stores.ensures;
      numbers = subst (AreUpTo P 0) (sym c.new-numbers.ensures.items) (upto-none P (λ i p. (split-bound c.args.trace.now c.args.labels.now i p).0));
    }

pub loop-index-preserved : goal.loop-index-preserved
loop-index-preserved c =
    let T = c.args.trace.now in
    let es = c.events-events.result.now in
    let i = c.loop-index.index in
    let e = c.index-events-index.result in
    let within : c.loop-index.index < length c.events-events.result.now = omega arith in
    let at : event T (suc i) ≡ Some e = ap (λ xs. slice_get xs i) (sym c.events-events.ensures.value) ∙ slice_get-get_or es i e within ∙ ap Some (sym c.index-events-index.is) in
    record {
      stores = stores-up T i _ e c.loop-index.stores c.note_store.new.stores (omega arith) at c.note_store.ensures c.loop-index.invariant.stores;
      numbers = upto-more (IsSplitWord T c.args.labels.now) i _ c.is_split-is_told.result c.loop-index.numbers.items c.push_if.new.numbers.items (omega arith) c.in_ok-push_if.ensures
          (split-told T c.args.labels.now i c.get-earlier.result _ e.thread c.loop-index.stores e.op c.is_split-is_told.result (omega arith) at c.is_split-is_told.ensures.small c.get-earlier.ensures c.is_split-is_told.ensures.value
          c.loop-index.invariant.stores)
          c.loop-index.invariant.numbers;
    }

pub returns : goal.returns
returns c =
    let T = c.args.trace.now in
    let P = IsSplitWord T c.args.labels.now in
    let long : length c.events-events.result.now ≡ length T.events = ap (λ xs. length xs) c.events-events.ensures.value in
    let all : c.loop-index.index ≡ length T.events = omega (arith, long) in
    upto-those P (length T.events) c.loop-index.numbers.items (λ i p. (split-bound T c.args.labels.now i p).1) (subst (λ n. AreUpTo P n c.loop-index.numbers.items) all c.loop-index.invariant.numbers)
