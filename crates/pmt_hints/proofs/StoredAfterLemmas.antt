-- Last and next fences, and the events of stores.
use Rattle.std.proofs.Common.{◌≡◌, ◌≢◌, ℕ, suc, ◌<◌, ◌≤◌, Bool, true, false, List, [], ◌∷◌, ◌+◌, length, Some, refl, sym, ap, subst, ◌∙◌, arith}
use Rattle.std.specs.Prelude.{◌↔◌}
use Rattle.std.proofs.lemmas.Bool.{false≢true}
use Rattle.std.proofs.lemmas.Option.{same_Some}
use Rattle.pmt_laws.specs.Prelude.{Event, Written, Act, Stores, Flushes, Clflushes, Fences, Recording, IsAct, act, event, IsFlushOf, ByFlush, ByClflush, Has}
use Rattle.pmt_laws.proofs.Histories.{act-unique, act-within}
use Rattle.pmt_explain.specs.Following.{IsFirst, past_of}
use Rattle.pmt_hints.specs.declared.per_thread.PerThread.{PerThread}
use Rattle.pmt_hints.specs.Hints.{IsAfterOpenFlush, IsStoreBy, IsStoredAfterFlush}
use Rattle.pmt_hints.specs.Numbers.{of_thread, fence_by}
use Rattle.pmt_hints.proofs.StepLemmas.{IsLast, fence-decides, last-none, last-step, listed-step}
use Rattle.pmt_explain.proofs.FirstLemmas.{first-none}

-- the last fence of each thread up to place n
abbrev pub FencesUpTo : Recording → ℕ → PerThread → Type 0
FencesUpTo T n fences = (t : ℕ) → t < 256 → IsLast (λ k. IsAct T k (Fences t)) n (of_thread fences t)

-- the next fence of each thread of these later events
abbrev pub FencesIn : Recording → List ℕ → PerThread → Type 0
FencesIn T later fences = (t : ℕ) → t < 256 → IsFirst (λ k. Has later k × IsAct T k (Fences t)) (past_of T) (of_thread fences t)

pub flush-within : (T : Recording) (l k : ℕ) → IsFlushOf T l k → k ≤ length T.events
flush-within T l k (ByFlush t is) = (act-within T k (Flushes t l) is).1
flush-within T l k (ByClflush is) = (act-within T k (Clflushes l) is).1

-- one event more, and one less
pub fences-up : (T : Recording) (n number : ℕ) (a : Act) (old new : PerThread) → number ≡ suc n → IsAct T (suc n) a → ((t : ℕ) → t < 256 → of_thread new t ≡ fence_by a number t (of_thread old t)) → FencesUpTo T n old → FencesUpTo T (n + 1) new
fences-up T n number a old new same is noted x =
    let next : suc n ≡ n + 1 = omega arith in
    subst (λ m. FencesUpTo T m new) next
    (λ t small. subst (IsLast (λ k. IsAct T k (Fences t)) (suc n)) (sym (noted t small)) (last-step (λ k. IsAct T k (Fences t)) n _ _ (fence-decides T n number t (of_thread old t) a same is) (x t small)))

pub fences-down : (T : Recording) (n : ℕ) (later : List ℕ) (a : Act) (old new : PerThread) → ((k : ℕ) → Has later k → suc n < k) → IsAct T (suc n) a → ((t : ℕ) → t < 256 → of_thread new t ≡ fence_by a (suc n) t (of_thread old t)) → FencesIn T later old →
    FencesIn T (suc n ∷ later) new
fences-down T n later a old new above is noted x = λ t small.
    subst (IsFirst (λ k. Has (suc n ∷ later) k × IsAct T k (Fences t)) (past_of T)) (sym (noted t small))
    (listed-step (λ k. IsAct T k (Fences t)) (past_of T) n _ _ later (omega (arith, (act-within T (suc n) a is).1)) above (fence-decides T n (suc n) t (of_thread old t) a refl is) (x t small))

-- before the first event, and after the last one
pub fences-none : (T : Recording) (fences : PerThread) → ((t : ℕ) → t < 256 → of_thread fences t ≡ 0) → FencesUpTo T 0 fences
fences-none T fences all = λ t small. subst (IsLast (λ k. IsAct T k (Fences t)) 0) (sym (all t small)) (last-none (λ k. IsAct T k (Fences t)))

pub fences-end : (T : Recording) (fences : PerThread) → ((t : ℕ) → t < 256 → of_thread fences t ≡ past_of T) → FencesIn T [] fences
fences-end T fences all = λ t small. subst (IsFirst (λ k. Has [] k × IsAct T k (Fences t)) (past_of T)) (sym (all t small)) (first-none (λ k. Has [] k × IsAct T k (Fences t)) (past_of T) (λ k f. absurd f.0))

-- a store's own event
pub store-act : (T : Recording) (t l i : ℕ) → (s : IsStoreBy T t l i) → IsAct T i (Stores l s.1)
store-act T t l i s = (s.0, s.2, s.4)

pub own-store : (T : Recording) (i t l : ℕ) (e : Event) → event T i ≡ Some e → (s : IsStoreBy T t l i) → (e.thread ≡ t) × (act T.format e ≡ Stores l s.1)
own-store T i t l e here s = let same : s.0 ≡ e = same_Some s.0 e (sym s.2 ∙ here) in (ap (λ (d : Event). d.thread) (sym same) ∙ s.3, ap (act T.format) (sym same) ∙ s.4)

-- a fence is no flush and no store
pub fence-no_flush : (T : Recording) (t l i : ℕ) → IsAct T i (Fences t) → IsFlushOf T l i → ⊥
fence-no_flush T t l i fence (ByFlush u flush) = let e = act-unique T i (Fences t) (Flushes u l) fence flush in cc
fence-no_flush T t l i fence (ByClflush flush) = let e = act-unique T i (Fences t) (Clflushes l) fence flush in cc

-- of an act that is no store
pub none-told : (T : Recording) (i : ℕ) (e : Event) (a : Act) (b : Bool) → event T i ≡ Some e → act T.format e ≡ a → ((l : ℕ) (w : Written) → a ≢ Stores l w) → b ≡ false → (b ≡ true) ↔ IsAfterOpenFlush T i
none-told T i e a b here is other off = (λ yes_so. absurd (false≢true (sym off ∙ yes_so)), λ h. absurd (other h.line h.is_store.1 (sym is ∙ (own-store T i h.thread h.line e here h.is_store).1)))

-- such a store is an event of the trace
pub stored-bound : (T : Recording) (i : ℕ) → IsStoredAfterFlush T i → (1 ≤ i) × (i ≤ length T.events)
stored-bound T i h = act-within T i (Stores h.after.line h.after.is_store.1) (store-act T h.after.thread h.after.line i h.after.is_store)
