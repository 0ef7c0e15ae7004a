-- Stores that come when their thread has nothing open.
use Rattle.std.proofs.Common.{◌≡◌, ℕ, zero, suc, ◌<◌, ◌≤◌, ◌⊎◌, inl, inr, Bool, true, false, List, [], Option, None, Some, refl, sym, ap, subst, ◌∙◌, arith}
use Rattle.std.specs.Prelude.{◌==◌, ◌&&◌, ◌||◌, not}
use Rattle.std.proofs.lemmas.Bool.{cases_lt, cases_eq, eq-eqb, ne_eqb, false≢true}
use Rattle.pmt_laws.specs.Prelude.{Event, Act, Stores, Flushes, Clflushes, Fences, Asserts, Recording, IsAct, act, event}
use Rattle.pmt_laws.proofs.Histories.{act-unique, act-within}
use Rattle.pmt_hints.specs.declared.per_thread.PerThread.{PerThread}
use Rattle.pmt_hints.specs.Contrasts.{StoresWhenClear, clear_by, clear_over, is_clear, stores_open}
use Rattle.pmt_hints.specs.Hints.{AreThose, FencesBetween, IsOpenThroughout, IsStoreBy, IsStoredAfterFlush}
use Rattle.pmt_hints.specs.Numbers.{of_thread}
use Rattle.pmt_hints.proofs.StoredAfterLemmas.{own-store}

later : (T : Recording) (t f n : ℕ) → FencesBetween T t f n → FencesBetween T t f (suc n)
later T t f n x = (x.0, x.1, omega (arith, x.2), x.3)

-- the act at place n keeps a thread clear only if a fence has closed its flushes, or it was clear before
clear-act : (T : Recording) (t l n f : ℕ) (was : Bool) (a : Act) → IsAct T (suc n) a → clear_by a t was ≡ true → IsAct T f (Flushes t l) → f ≤ suc n → (was ≡ true → f ≤ n → FencesBetween T t f (suc n)) → FencesBetween T t f (suc (suc n))
clear-act T t l n f was a is clear flush upto before = go (cases_lt n f)
  where
    earlier : was ≡ true → f ≤ n → FencesBetween T t f (suc (suc n))
    earlier on from = later T t f (suc n) (before on from)

    by_fence : (u : ℕ) → a ≡ Fences u → u ≡ t → f ≤ n → FencesBetween T t f (suc (suc n))
    by_fence u same own from = (suc n, omega (arith, from), omega arith, subst (λ v. IsAct T (suc n) (Fences v)) own (subst (IsAct T (suc n)) same is))

    over : (b : Act) → a ≡ b → f ≤ n → FencesBetween T t f (suc (suc n))
    over (Stores k w) same from = earlier (sym (ap (λ x. clear_by x t was) same) ∙ clear) from
    over (Clflushes k) same from = earlier (sym (ap (λ x. clear_by x t was) same) ∙ clear) from
    over Asserts same from = earlier (sym (ap (λ x. clear_by x t was) same) ∙ clear) from
    over (Flushes u k) same from = by (u == t) (sym (ap (λ x. clear_by x t was) same) ∙ clear)
      where
        by : (own : Bool) → (not own && was) ≡ true → FencesBetween T t f (suc (suc n))
        by true on = absurd (false≢true on)
        by false on = earlier on from
    over (Fences u) same from = elim (cases_eq u t) [
      | inl own ↦ by_fence u same own from
      | inr apart ↦ earlier (sym (ap (λ (b : Bool). b || was) (ne_eqb u t apart)) ∙ sym (ap (λ x. clear_by x t was) same) ∙ clear) from
    ]

    last : (b : Act) → a ≡ b → f ≡ suc n → FencesBetween T t f (suc (suc n))
    last b same here =
        let both : a ≡ Flushes t l = act-unique T (suc n) a (Flushes t l) is (subst (λ i. IsAct T i (Flushes t l)) here flush) in
        let off : (not (t == t) && was) ≡ true = sym (ap (λ x. clear_by x t was) both) ∙ clear in
        absurd (false≢true (sym (ap (λ own. not own && was) (eq-eqb t t refl)) ∙ off))

    go : (n < f) ⊎ (f ≤ n) → FencesBetween T t f (suc (suc n))
    go (inl past) = last a refl (omega (arith, past, upto))
    go (inr from) = over a refl from

clear-event : (T : Recording) (t l n f : ℕ) (o : Option Event) → event T (suc n) ≡ o → clear_over T.format o t (is_clear T t n) ≡ true → IsAct T f (Flushes t l) → f ≤ suc n → (is_clear T t n ≡ true → f ≤ n → FencesBetween T t f (suc n)) → FencesBetween T t f (suc (suc n))
clear-event T t l n f (Some e) here clear flush upto before = clear-act T t l n f (is_clear T t n) (act T.format e) (e, here, refl) clear flush upto before
clear-event T t l n f None none clear flush upto before = over (cases_lt n f)
  where
    past : (e : Event) → event T (suc n) ≡ Some e → ⊥
    past e at = let clash : None ≡ Some e = sym none ∙ at in cc

    over : (n < f) ⊎ (f ≤ n) → FencesBetween T t f (suc (suc n))
    over (inl above) = let same : f ≡ suc n = omega (arith, above, upto) in absurd (past flush.0 (subst (λ i. event T i ≡ Some flush.0) same flush.1))
    over (inr from) = later T t f (suc n) (before clear from)

-- a thread that is clear has fenced since each of its flushes
clear-fenced : (T : Recording) (t l n f : ℕ) → is_clear T t n ≡ true → IsAct T f (Flushes t l) → f ≤ n → FencesBetween T t f (suc n)
clear-fenced T t l zero f clear flush upto = absurd (omega (arith, upto, (act-within T f (Flushes t l) flush).0))
clear-fenced T t l (suc n) f clear flush upto = clear-event T t l n f (event T (suc n)) refl clear flush upto (λ was from. clear-fenced T t l n f was flush from)

-- so where each store comes when its thread is clear, no flush is open at a store
fenced-at : (T : Recording) → StoresWhenClear T → (t l m f s : ℕ) → IsAct T f (Flushes t l) → IsStoreBy T t m s → f < s → FencesBetween T t f s
fenced-at T all t l m f zero flush store before = absurd (omega (arith, before))
fenced-at T all t l m f (suc k) flush store before = clear-fenced T t l k f (all k t m store) flush (omega (arith, before))

pub none-open : (T : Recording) (labels : List (Option ℕ)) → StoresWhenClear T → AreThose (IsOpenThroughout T labels) []
none-open T labels all = record {
  rising = tt;
  just = λ i. (λ h. absurd h, λ h. let o = h.is_open.1 in absurd (o.still_open (fenced-at T all o.thread o.line o.elsewhere i o.store o.is_flush o.is_store o.later)));
}

pub none-stored : (T : Recording) → StoresWhenClear T → AreThose (IsStoredAfterFlush T) []
none-stored T all = record {
  rising = tt;
  just = λ i. (λ h. absurd h, λ h. absurd (h.after.still_open (fenced-at T all h.after.thread h.after.line h.after.line h.after.flush i h.after.is_flush h.after.is_store h.after.earlier)));
}

-- a store that is not told comes when its thread is clear
pub store-clear : (T : Recording) (n : ℕ) (e : Event) (a : Act) (waiting : PerThread) (b : Bool) → event T (suc n) ≡ Some e → act T.format e ≡ a → b ≡ stores_open waiting e.thread a → b ≡ false → (of_thread waiting e.thread == 0) ≡ is_clear T e.thread n →
    (t l : ℕ) → IsStoreBy T t l (suc n) → is_clear T t n ≡ true
store-clear T n e a waiting b here is told off same t l store = subst (λ u. is_clear T u n ≡ true) own.0 (sym same ∙ on (of_thread waiting e.thread == 0) (sym stored ∙ sym told ∙ off))
  where
    own : (e.thread ≡ t) × (act T.format e ≡ Stores l store.1)
    own = own-store T (suc n) t l e here store

    stored : stores_open waiting e.thread a ≡ not (of_thread waiting e.thread == 0)
    stored = ap (stores_open waiting e.thread) (sym is ∙ own.1)

    on : (x : Bool) → not x ≡ false → x ≡ true
    on true x = refl
    on false x = absurd (false≢true (sym x))
