use Rattle.std.proofs.Common.{◌≡◌, ℕ, ◌+◌, ◌-◌, suc, ◌<◌, length, Some, refl, subst, sym, ap, ◌∙◌, arith}
use Rattle.std.proofs.lemmas.Grind.{elements}
use Rattle.std.specs.Prelude.{slice_get}
use Rattle.std.proofs.lemmas.List.{length-set}
use Rattle.std.proofs.lemmas.Option.{same_Some, slice_get-get_or, slice_get_within}
use Rattle.pmt_laws.specs.Prelude.{Event, Fences, event}
use Rattle.pmt_laws.proofs.Histories.{act-within}
use Rattle.pmt_explain.specs.Following.{IsFenceAfter, IsFirst, past_of, fence_of}
use Rattle.pmt_explain.proofs.FirstLemmas.{first-none}
use Rattle.pmt_explain.proofs.FollowingLemmas.{told-set}
use Rattle.pmt_explain.proofs.UpcomingLemmas.{fence-back}
use Rattle.pmt_explain.proofs.upcoming.own_fences.Goals as goal

pub loop-index-init : goal.loop-index-init
loop-index-init c =
    let T = c.args.trace.now in
    let long : length c.events-events.result.now ≡ length T.events = ap (λ xs. length xs) c.events-events.ensures.value in
    let past : length c.events-events.result.now + 1 ≡ past_of T = omega (arith, long) in
    record {
      size = omega (arith, c.in_ok-fences.ensures.len, long);
      ahead = λ t small.
          subst (λ n. IsFirst (IsFenceAfter T t n) (past_of T) (fence_of c.new-next.result t)) (sym long)
          (subst (IsFirst (IsFenceAfter T t (length T.events)) (past_of T)) (sym (c.new-next.ensures t small ∙ past))
          (first-none (IsFenceAfter T t (length T.events)) (past_of T) (λ k f. absurd (omega (arith, f.0, (act-within T k (Fences t) f.1).1)))));
      each = λ n p e from is at. absurd (omega (arith, slice_get_within c.in_ok-fences.fences.items n p is, c.in_ok-fences.ensures.len));
    }

pub loop-index-preserved : goal.loop-index-preserved
loop-index-preserved c =
    let T = c.args.trace.now in
    let es = c.events-events.result.now in
    let i = c.loop-index.index - 1 in
    let e = c.index-events-index.result in
    let list = c.loop-index.fences.items in
    let long : length c.events-events.result.now ≡ length T.events = ap (λ xs. length xs) c.events-events.ensures.value in
    let before : c.loop-index.index ≡ suc (c.loop-index.index - 1) = omega arith in
    let within : c.loop-index.index - 1 < length c.events-events.result.now = omega arith in
    let inside : c.loop-index.index - 1 < length c.loop-index.fences.items = omega (arith, c.loop-index.invariant.size, long) in
    let at : event T (suc i) ≡ Some e = ap (λ xs. slice_get xs i) (sym c.events-events.ensures.value) ∙ slice_get-get_or es i e within ∙ ap Some (sym c.index-events-index.is) in
    let ahead : (t : ℕ) → t < 256 → IsFirst (IsFenceAfter T t (suc i)) (past_of T) (fence_of c.loop-index.next t) =
    λ t small. subst (λ k. IsFirst (IsFenceAfter T t k) (past_of T) (fence_of c.loop-index.next t)) before (c.loop-index.invariant.ahead t small)
    in
    let Tells : ℕ → ℕ → Type 0 = λ n p. (d : Event) → event T n ≡ Some d → IsFirst (IsFenceAfter T d.thread n) (past_of T) p in
    let here : Tells (suc i) c.get-fence.result =
    λ d is.
    let same : e ≡ d = same_Some e d (sym at ∙ is) in
    subst (λ (x : Event). IsFirst (IsFenceAfter T x.thread (suc i)) (past_of T) c.get-fence.result) same
    (subst (IsFirst (IsFenceAfter T e.thread (suc i)) (past_of T)) (sym c.get-fence.ensures.value) (ahead e.thread c.get-fence.ensures.small))
    in
    record {
      size = length-set list i c.get-fence.result ∙ c.loop-index.invariant.size;
      ahead = λ t small.
          subst (IsFirst (IsFenceAfter T t i) (past_of T)) (sym (c.note.ensures t small))
          (fence-back T i _ t (fence_of c.loop-index.next t) e.thread T.format e.op (e, at, refl) (omega arith) (ahead t small));
      each = λ n p d from is at_n. told-set Tells list i n c.get-fence.result p inside here (λ m q later found x is_x. c.loop-index.invariant.each m q x (omega arith) found is_x) from is d at_n;
    }

pub returns : goal.returns
returns c = record { size = c.loop-index.invariant.size; each = λ n p e is at. c.loop-index.invariant.each n p e (omega arith) is at }

pub index_mut-requires : goal.index_mut-requires
index_mut-requires c = grind (arith, elements)
