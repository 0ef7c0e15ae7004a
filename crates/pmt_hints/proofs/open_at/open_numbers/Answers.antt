use Rattle.std.proofs.Common.{◌≡◌, ℕ, suc, ◌+◌, ◌-◌, ◌<◌, ◌≤◌, ◌∷◌, ◌++◌, true, drop, get_or, length, Some, sym, ap, subst, ◌∙◌, arith}
use Rattle.std.specs.Prelude.{◌↔◌, ◌||◌, reverse, slice_get}
use Rattle.std.proofs.lemmas.List.{drop_all, drop_more}
use Rattle.std.proofs.lemmas.Option.{slice_get-get_or}
use Rattle.std.proofs.lemmas.Result.{IfOk-weaker}
use Rattle.pmt_laws.specs.Prelude.{Has}
use Rattle.pmt_laws.proofs.KeepLemmas.{keep_is_selection}
use Rattle.pmt_model.specs.Traces.{act, act_of, event}
use Rattle.pmt_explain.specs.Following.{past_of}
use Rattle.pmt_hints.specs.Contrasts.{has_place, is_place, op_place, place_of}
use Rattle.pmt_hints.specs.Claiming.{if_told}
use Rattle.pmt_hints.specs.Numbers.{fence_by, of_thread, elsewhere_at, store_by}
use Rattle.pmt_hints.specs.Hints.{AreThose, IsOpenAtStore, IsOpenFlush}
use Rattle.pmt_hints.proofs.ClaimLemmas.{has-get, rising-above}
use Rattle.pmt_hints.proofs.OpenAtLemmas.{StoresIn, flush-thread, open-told, stores-before, stores-none}
use Rattle.pmt_hints.proofs.SiftingLemmas.{AreSifted, has-after, sifted-more, sifted-none, sifted-shut, sifted-those}
use Rattle.pmt_hints.proofs.StoredAfterLemmas.{FencesIn, fences-down, fences-end}
use Rattle.pmt_hints.proofs.open_at.open_numbers.Goals as goal

pub loop-index-init : goal.loop-index-init
loop-index-init c =
    let T = c.args.trace.now in
    let long : length c.events-events.result.now ≡ length T.events = ap (λ xs. length xs) c.events-events.ensures.value in
    let past : length c.events-events.result.now + 1 ≡ past_of T = omega (arith, long) in
    let none = sym (drop_all (length c.args.numbers.now) c.args.numbers.now (omega arith)) in
    record {
      fences = subst (λ ks. FencesIn T ks c.new-fences.result) none (fences-end T c.new-fences.result (λ t small. c.new-fences.ensures t small ∙ past));
      stores = subst (λ ks. StoresIn T ks c.new-stores.result) none (stores-none T c.new-stores.result (λ t l small. c.new-stores.ensures t l small ∙ past));
      sifted = subst (λ ks. AreSifted T c.args.labels.now ks (reverse c.new-open.result.items) c.args.closed.now) none (sifted-none T c.args.labels.now c.new-open.result.items c.args.closed.now c.new-open.ensures.items c.requires.none);
    }

pub overflow_sub-before : goal.overflow_sub-before
overflow_sub-before c =
    let inside : c.loop-index.index - 1 < length c.args.numbers.now = omega arith in
    rising-above 0 c.args.numbers.now _ c.requires.keep.rising (has-get c.args.numbers.now (c.loop-index.index - 1) inside)

pub bounds-events-before : goal.bounds-events-before
bounds-events-before c =
    let numbers = c.args.numbers.now in
    let inside : c.loop-index.index - 1 < length c.args.numbers.now = omega arith in
    let has = has-get numbers (c.loop-index.index - 1) inside in
    omega (arith, rising-above 0 numbers _ c.requires.keep.rising has, (keep_is_selection c.args.trace.now numbers c.requires.keep).within _ has, ap (λ xs. length xs) c.events-events.ensures.value)

pub offset_bounds-events-before : goal.offset_bounds-events-before
offset_bounds-events-before c =
    let numbers = c.args.numbers.now in
    let inside : c.loop-index.index - 1 < length c.args.numbers.now = omega arith in
    let within = (keep_is_selection c.args.trace.now numbers c.requires.keep).within _ (has-get numbers (c.loop-index.index - 1) inside) in
    let few : length c.args.trace.now.events ≤ 1000000 = c.events-events.ensures.is_trace.few in
    omega (arith, within, few)

pub loop-index-preserved : goal.loop-index-preserved
loop-index-preserved c =
    let T = c.args.trace.now in
    let labels = c.args.labels.now in
    let numbers = c.args.numbers.now in
    let keep = c.requires.keep in
    let es = c.events-events.result.now in
    let i = c.loop-index.index - 1 in
    let n = get_or c.args.numbers.now (c.loop-index.index - 1) 0 - 1 in
    let later = drop (suc i) numbers in
    let e = c.index-events-before.result in
    let a = act_of c.format-format.result e.thread e.op in
    let b = c.is_open-is_open.result in
    let inside : c.loop-index.index - 1 < length c.args.numbers.now = omega arith in
    let some : 0 < get_or c.args.numbers.now (c.loop-index.index - 1) 0 = rising-above 0 numbers (get_or numbers i 0) keep.rising (has-get numbers i inside) in
    let same : get_or c.args.numbers.now (c.loop-index.index - 1) 0 ≡ suc (get_or c.args.numbers.now (c.loop-index.index - 1) 0 - 1) = omega (arith, some) in
    let has : Has numbers (suc n) = subst (Has numbers) same (has-get numbers i inside) in
    let rest : (k : ℕ) → Has later k ↔ (Has numbers k × (suc n < k)) = λ k. subst (λ m. Has later k ↔ (Has numbers k × (m < k))) same (has-after 0 numbers i k keep.rising inside) in
    let above : (k : ℕ) → Has later k → suc n < k = λ k h. ((rest k).0 h).1 in
    let long : length c.events-events.result.now ≡ length T.events = ap (λ xs. length xs) c.events-events.ensures.value in
    let within : n < length es = omega (arith, some, (keep_is_selection T numbers keep).within (suc n) has, long) in
    let at : event T (suc n) ≡ Some e = ap (λ xs. slice_get xs n) (sym c.events-events.ensures.value) ∙ slice_get-get_or es n e within ∙ ap Some (sym c.index-events-before.is) in
    let own : act T.format e ≡ a = ap (λ g. act_of g e.thread e.op) (sym c.format-format.ensures.value) in
    let before : c.loop-index.index ≡ suc (c.loop-index.index - 1) = omega arith in
    let on : c.loop-index.index - 1 + 1 ≡ suc (c.loop-index.index - 1) = omega arith in
    let listed : suc n ∷ later ≡ drop i numbers = sym (drop_more numbers i 0 inside ∙ ap (λ m. m ∷ drop (i + 1) numbers) same ∙ ap (λ k. suc n ∷ drop k numbers) on) in
    let fences : FencesIn T later c.loop-index.fences = subst (λ k. FencesIn T (drop k numbers) c.loop-index.fences) before c.loop-index.invariant.fences in
    let stores : StoresIn T later c.loop-index.stores = subst (λ k. StoresIn T (drop k numbers) c.loop-index.stores) before c.loop-index.invariant.stores in
    let sifted : AreSifted T labels later (reverse c.loop-index.open.items) c.loop-index.closed = subst (λ k. AreSifted T labels (drop k numbers) (reverse c.loop-index.open.items) c.loop-index.closed) before c.loop-index.invariant.sifted in
    let told : (c.is_open-is_open.result ≡ true) ↔ IsOpenFlush T (suc n) =
    open-told T numbers later keep n has rest c.loop-index.fences c.loop-index.stores b e.thread a (e, at, own) c.is_open-is_open.ensures.small (flush-thread c.format-format.result e.thread e.op) c.is_open-is_open.ensures.value fences stores
    in
    let place : op_place labels (get_or numbers i 0) e.thread e.op ≡ place_of labels (suc n) (event T (suc n)) = ap (λ m. op_place labels m e.thread e.op) same ∙ sym (ap (place_of labels (suc n)) at) in
    let made : c.push_if.new.numbers.items ≡ c.loop-index.open.items ++ if_told b (suc n) = c.in_ok-push_if.ensures ∙ ap (λ m. c.loop-index.open.items ++ if_told b m) same in
    record {
      fences = subst (λ ks. FencesIn T ks c.note_fence.new.self) listed
          (fences-down T n later a c.loop-index.fences c.note_fence.new.self above (e, at, own) (λ t small. subst (λ m. of_thread c.note_fence.new.self t ≡ fence_by a m t (of_thread c.loop-index.fences t)) same (c.note_fence.ensures t small)) fences);
      stores = subst (λ ks. StoresIn T ks c.note.new.self) listed
          (stores-before T n later e a c.loop-index.stores c.note.new.self above at own (λ t l small. subst (λ m. elsewhere_at c.note.new.self t l ≡ store_by a e.thread m t l (elsewhere_at c.loop-index.stores t l)) same (c.note.ensures t l small)) stores);
      sifted = subst (λ ks. AreSifted T labels ks (reverse c.push_if.new.numbers.items) c.add.new.self) listed
          (sifted-more T labels later c.loop-index.open.items c.push_if.new.numbers.items c.loop-index.closed c.add.new.self (suc n) b (op_place labels (get_or numbers i 0) e.thread e.op) (omega arith) above told place made
          (λ p. c.in_ok-add.ensures p ∙ ap (λ o. has_place c.loop-index.closed p || is_place p o) c.place_unless.ensures) sifted);
    }

pub returns-clause-those : goal.returns-clause-those
returns-clause-those c =
    let T = c.args.trace.now in
    let labels = c.args.labels.now in
    let numbers = c.args.numbers.now in
    let all : c.loop-index.index ≡ 0 = omega arith in
    let sifted : AreSifted T labels numbers (reverse c.loop-index.open.items) c.loop-index.closed = subst (λ k. AreSifted T labels (drop k numbers) (reverse c.loop-index.open.items) c.loop-index.closed) all c.loop-index.invariant.sifted in
    IfOk-weaker c.backwards.result _ _ (λ these is. subst (AreThose (IsOpenAtStore T)) (sym (is ∙ ap (λ xs. reverse xs) c.as_slice.ensures.value)) (sifted-those T labels numbers (reverse c.loop-index.open.items) c.loop-index.closed c.requires.keep sifted)) c.backwards.ensures

pub returns-clause-closed : goal.returns-clause-closed
returns-clause-closed c =
    let T = c.args.trace.now in
    let labels = c.args.labels.now in
    let numbers = c.args.numbers.now in
    let all : c.loop-index.index ≡ 0 = omega arith in
    let sifted : AreSifted T labels numbers (reverse c.loop-index.open.items) c.loop-index.closed = subst (λ k. AreSifted T labels (drop k numbers) (reverse c.loop-index.open.items) c.loop-index.closed) all c.loop-index.invariant.sifted in
    IfOk-weaker c.backwards.result _ _ (λ these is. sifted-shut T labels numbers (reverse c.loop-index.open.items) c.loop-index.closed c.requires.keep sifted) c.backwards.ensures
