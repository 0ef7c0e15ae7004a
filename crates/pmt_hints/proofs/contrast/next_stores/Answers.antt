use Rattle.std.proofs.Common.{◌≡◌, ◌+◌, ◌-◌, ℕ, suc, ◌<◌, length, Some, ap, sym, subst, ◌∙◌, arith}
use Rattle.std.specs.Prelude.{slice_get}
use Rattle.std.proofs.lemmas.List.{length-set}
use Rattle.std.proofs.lemmas.Option.{slice_get-get_or, slice_get_within}
use Rattle.pmt_laws.specs.Prelude.{Flushes, IsAct, act, act_of, event}
use Rattle.pmt_explain.specs.Following.{IsFirst, past_of}
use Rattle.pmt_explain.proofs.FollowingLemmas.{told-set}
use Rattle.pmt_hints.specs.Contrasts.{IsStoreElsewhere}
use Rattle.pmt_hints.proofs.ContrastLemmas.{next-told}
use Rattle.pmt_hints.proofs.OpenAtLemmas.{StoresFrom, flush-thread, stores-down, stores-end}
use Rattle.pmt_hints.proofs.contrast.next_stores.Goals as goal

pub loop-index-init : goal.loop-index-init
loop-index-init c =
    let T = c.args.trace.now in
    let long : length c.events-events.result.now ≡ length T.events = ap (λ xs. length xs) c.events-events.ensures.value in
    let past : length c.events-events.result.now + 1 ≡ past_of T = omega (arith, long) in
    record {
      size = omega (arith, c.in_ok-nexts.ensures.len, long);
      stores = subst (λ n. StoresFrom T n c.new-stores.result) (sym long) (stores-end T c.new-stores.result (λ t l small. c.new-stores.ensures t l small ∙ past));
      each = λ k x t m from is. absurd (omega (arith, slice_get_within c.in_ok-nexts.nexts.items k x is, c.in_ok-nexts.ensures.len));
    }

pub loop-index-preserved : goal.loop-index-preserved
loop-index-preserved c =
    let T = c.args.trace.now in
    let es = c.events-events.result.now in
    let i = c.loop-index.index - 1 in
    let e = c.index-events-index.result in
    let a = act_of c.format-format.result e.thread e.op in
    let long : length c.events-events.result.now ≡ length T.events = ap (λ xs. length xs) c.events-events.ensures.value in
    let before : c.loop-index.index ≡ suc (c.loop-index.index - 1) = omega arith in
    let within : c.loop-index.index - 1 < length c.events-events.result.now = omega arith in
    let inside : c.loop-index.index - 1 < length c.loop-index.nexts.items = omega (arith, c.loop-index.invariant.size, long) in
    let at : event T (suc i) ≡ Some e = ap (λ xs. slice_get xs i) (sym c.events-events.ensures.value) ∙ slice_get-get_or es i e within ∙ ap Some (sym c.index-events-index.is) in
    let own : act T.format e ≡ a = ap (λ g. act_of g e.thread e.op) (sym c.format-format.ensures.value) in
    let stores : StoresFrom T (suc i) c.loop-index.stores = subst (λ k. StoresFrom T k c.loop-index.stores) before c.loop-index.invariant.stores in
    let told : (t m : ℕ) → IsAct T (suc i) (Flushes t m) → IsFirst (IsStoreElsewhere T t m (suc i)) (past_of T) c.next_of-next.result =
    next-told T i e.thread c.next_of-next.result a c.loop-index.stores (e, at, own) c.next_of-next.ensures.small (flush-thread c.format-format.result e.thread e.op) c.next_of-next.ensures.value stores
    in
    record {
      size = length-set c.loop-index.nexts.items i c.next_of-next.result ∙ c.loop-index.invariant.size;
      stores = stores-down T i _ e a c.loop-index.stores c.note.new.self (omega arith) at own c.note.ensures stores;
      each = λ k x t m from is.
          told-set (λ n (x : ℕ). (t m : ℕ) → IsAct T n (Flushes t m) → IsFirst (IsStoreElsewhere T t m n) (past_of T) x) c.loop-index.nexts.items i k c.next_of-next.result x inside told
          (λ j y later here u l. c.loop-index.invariant.each j y u l (omega arith) here) from is t m;
    }

pub returns : goal.returns
returns c = record { size = c.loop-index.invariant.size; each = λ k x t m is. c.loop-index.invariant.each k x t m (omega arith) is }
