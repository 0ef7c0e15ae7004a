use Rattle.std.proofs.Common.{◌≡◌, ℕ, suc, ◌+◌, ◌<◌, ◌≤◌, ◌⊎◌, inl, inr, true, length, Some, ap, sym, subst, ◌∙◌, arith}
use Rattle.std.specs.Prelude.{◌==◌, slice_get}
use Rattle.std.proofs.lemmas.Bool.{cases_lt}
use Rattle.std.proofs.lemmas.Option.{slice_get-get_or}
use Rattle.pmt_laws.specs.Prelude.{Stores, act, act_of, event}
use Rattle.pmt_laws.proofs.Histories.{act-within}
use Rattle.pmt_hints.specs.Contrasts.{is_clear}
use Rattle.pmt_hints.specs.Hints.{IsStoreBy}
use Rattle.pmt_hints.proofs.ContrastLemmas.{clear-up}
use Rattle.pmt_hints.proofs.StoredAfterLemmas.{store-act}
use Rattle.pmt_hints.proofs.WaitingLemmas.{store-clear}
use Rattle.pmt_hints.proofs.waiting.has_store_while_open.Goals as goal

pub loop-index-init : goal.loop-index-init
loop-index-init c = record { clear = λ t small. ap (λ x. x == 0) (c.new-waiting.ensures t small); stores = λ k t m none store. absurd (omega (arith, none)) }

pub loop-index-preserved : goal.loop-index-preserved
loop-index-preserved c =
    let T = c.args.trace.now in
    let es = c.events-events.result.now in
    let i = c.loop-index.index in
    let e = c.index-events-index.result in
    let a = act_of c.format-format.result e.thread e.op in
    let within : c.loop-index.index < length c.events-events.result.now = omega arith in
    let at : event T (suc i) ≡ Some e = ap (λ xs. slice_get xs i) (sym c.events-events.ensures.value) ∙ slice_get-get_or es i e within ∙ ap Some (sym c.index-events-index.is) in
    let own : act T.format e ≡ a = ap (λ g. act_of g e.thread e.op) (sym c.format-format.ensures.value) in
    let told = c.is_store_while_open.ensures in
    let here = store-clear T i e a c.loop-index.waiting c.is_store_while_open.result at own told.value c.if-is_store_while_open.false (c.loop-index.invariant.clear e.thread told.small) in
    record {
      clear = λ t small. clear-up T i e a t _ _ at own (c.note_open.ensures t small) (c.loop-index.invariant.clear t small);
      stores = λ k t m before store. step (c.loop-index.invariant.stores k t m) (λ same. subst (λ j. is_clear T t j ≡ true) (sym same) (here t m (subst (λ j. IsStoreBy T t m (suc j)) same store))) store (cases_lt k i) before;
    }
  where
    step : {A B : Type 0} {k i : ℕ} → (k < i → B → A) → (k ≡ i → A) → B → (k < i) ⊎ (i ≤ k) → k < i + 1 → A
    step old new store (inl below) before = old below store
    step old new store (inr from) before = new (omega (arith, from, before))

pub returns : goal.returns
returns c = λ off i t l store.
    let T = c.args.trace.now in
    let long : length c.events-events.result.now ≡ length T.events = ap (λ xs. length xs) c.events-events.ensures.value in
    c.loop-index.invariant.stores i t l (omega (arith, (act-within T (suc i) (Stores l store.1) (store-act T t l (suc i) store)).1, long)) store
