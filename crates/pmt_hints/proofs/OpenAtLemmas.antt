-- Flushes that are open at a store to another line.
use Rattle.std.proofs.Common.{◌≡◌, ◌≢◌, ℕ, suc, ◌<◌, ◌≤◌, ◌⊎◌, inl, inr, Bool, true, false, List, [], ◌∷◌, length, Some, refl, sym, ap, subst, ◌∙◌, arith}
use Rattle.std.specs.Prelude.{◌↔◌, nat_lt}
use Rattle.std.proofs.lemmas.Bool.{cases_lt, cases_eq, eq-eqb, ne_eqb, lt-ltb, le-ltb, false≢true}
use Rattle.pmt_laws.specs.Prelude.{Event, Op, Store, Clwb, ClflushOpt, Clflush, Sfence, Mfence, IsPersist, IsOrderedBefore, Layout, Act, Stores, Flushes, Clflushes, Fences, Asserts, Recording, IsAct, act, act_of, event, IsKeep, IsRising, Has, Stays, filter}
use Rattle.pmt_laws.proofs.Histories.{act-unique, act-within}
use Rattle.pmt_laws.proofs.NeededFlushes.{IsNeededFlush, kept-needed, needing-kept}
use Rattle.pmt_explain.specs.Following.{IsFirst, past_of}
use Rattle.pmt_explain.proofs.FirstLemmas.{first-none, first-same}
use Rattle.pmt_hints.specs.declared.next_stores.NextStores.{NextStores}
use Rattle.pmt_hints.specs.declared.per_thread.PerThread.{PerThread}
use Rattle.pmt_hints.specs.Hints.{FencesBetween, IsOpenFlush, IsStoreBy}
use Rattle.pmt_hints.specs.Numbers.{elsewhere_at, of_thread, open_so, store_by}
use Rattle.pmt_hints.proofs.StepLemmas.{Decides, listed-step, next-step}
use Rattle.pmt_hints.proofs.StoredAfterLemmas.{FencesIn, own-store, store-act}

-- event k is a store by thread t to another line than l
abbrev pub StoresElsewhere : Recording → ℕ → ℕ → ℕ → Type 0
StoresElsewhere T t l k = (m : ℕ) × (m ≢ l) × IsStoreBy T t m k

-- the next ones after place n
abbrev pub StoresFrom : Recording → ℕ → NextStores → Type 0
StoresFrom T n next = (t l : ℕ) → t < 256 → IsFirst (λ k. (n < k) × StoresElsewhere T t l k) (past_of T) (elsewhere_at next t l)

elsewhere-act : (T : Recording) (t l k : ℕ) → (s : StoresElsewhere T t l k) → IsAct T k (Stores s.0 (s.2).1)
elsewhere-act T t l k s = store-act T t s.0 k s.2

-- whether an event is one
store-decides : (T : Recording) (n number t l x : ℕ) (e : Event) (a : Act) → number ≡ suc n → event T (suc n) ≡ Some e → act T.format e ≡ a → Decides (StoresElsewhere T t l) (suc n) x (store_by a e.thread number t l x)
store-decides T n number t l x e (Flushes u k) same here is = inr (λ s. let x = act-unique T (suc n) (Flushes u k) (Stores s.0 (s.2).1) (e, here, is) (elsewhere-act T t l (suc n) s) in cc, refl)
store-decides T n number t l x e (Clflushes k) same here is = inr (λ s. let x = act-unique T (suc n) (Clflushes k) (Stores s.0 (s.2).1) (e, here, is) (elsewhere-act T t l (suc n) s) in cc, refl)
store-decides T n number t l x e (Fences u) same here is = inr (λ s. let x = act-unique T (suc n) (Fences u) (Stores s.0 (s.2).1) (e, here, is) (elsewhere-act T t l (suc n) s) in cc, refl)
store-decides T n number t l x e Asserts same here is = inr (λ s. let x = act-unique T (suc n) Asserts (Stores s.0 (s.2).1) (e, here, is) (elsewhere-act T t l (suc n) s) in cc, refl)
store-decides T n number t l x e (Stores k w) same here is = go (cases_eq e.thread t) (cases_eq k l)
  where
    go : (e.thread ≡ t) ⊎ (e.thread ≢ t) → (k ≡ l) ⊎ (k ≢ l) → Decides (StoresElsewhere T t l) (suc n) x (store_by (Stores k w) e.thread number t l x)
    go (inl own) (inr apart) = inl ((k, apart, (e, w, here, own, is)), rw (eq-eqb e.thread t own, ne_eqb k l apart) same)
    go (inl own) (inl line) =
        inr (λ s. let both = act-unique T (suc n) (Stores k w) (Stores s.0 (s.2).1) (e, here, is) (elsewhere-act T t l (suc n) s) in s.1 (let f : k ≡ s.0 = cc in sym f ∙ line), rw (eq-eqb e.thread t own, eq-eqb k l line) refl)
    go (inr apart) either = inr (λ s. apart (own-store T (suc n) t s.0 e here s.2).0, rw (ne_eqb e.thread t apart) refl)

pub stores-down : (T : Recording) (n number : ℕ) (e : Event) (a : Act) (old new : NextStores) → number ≡ suc n → event T (suc n) ≡ Some e → act T.format e ≡ a →
    ((t l : ℕ) → t < 256 → elsewhere_at new t l ≡ store_by a e.thread number t l (elsewhere_at old t l)) → StoresFrom T (suc n) old → StoresFrom T n new
stores-down T n number e a old new same here is noted x = λ t l small.
    subst (IsFirst (λ k. (n < k) × StoresElsewhere T t l k) (past_of T)) (sym (noted t l small))
    (next-step (StoresElsewhere T t l) (past_of T) n _ _ (omega (arith, (act-within T (suc n) a (e, here, is)).1)) (store-decides T n number t l (elsewhere_at old t l) e a same here is) (x t l small))

-- of these later events
abbrev pub StoresIn : Recording → List ℕ → NextStores → Type 0
StoresIn T later next = (t l : ℕ) → t < 256 → IsFirst (λ k. Has later k × StoresElsewhere T t l k) (past_of T) (elsewhere_at next t l)

pub stores-before : (T : Recording) (n : ℕ) (later : List ℕ) (e : Event) (a : Act) (old new : NextStores) → ((k : ℕ) → Has later k → suc n < k) → event T (suc n) ≡ Some e → act T.format e ≡ a →
    ((t l : ℕ) → t < 256 → elsewhere_at new t l ≡ store_by a e.thread (suc n) t l (elsewhere_at old t l)) → StoresIn T later old → StoresIn T (suc n ∷ later) new
stores-before T n later e a old new above here is noted x = λ t l small.
    subst (IsFirst (λ k. Has (suc n ∷ later) k × StoresElsewhere T t l k) (past_of T)) (sym (noted t l small))
    (listed-step (StoresElsewhere T t l) (past_of T) n _ _ later (omega (arith, (act-within T (suc n) a (e, here, is)).1)) above (store-decides T n (suc n) t l (elsewhere_at old t l) e a refl here is) (x t l small))

pub stores-none : (T : Recording) (next : NextStores) → ((t l : ℕ) → t < 256 → elsewhere_at next t l ≡ past_of T) → StoresIn T [] next
stores-none T next all = λ t l small.
    subst (IsFirst (λ k. Has [] k × StoresElsewhere T t l k) (past_of T)) (sym (all t l small)) (first-none (λ k. Has [] k × StoresElsewhere T t l k) (past_of T) (λ k s. absurd s.0))

pub stores-end : (T : Recording) (next : NextStores) → ((t l : ℕ) → t < 256 → elsewhere_at next t l ≡ past_of T) → StoresFrom T (length T.events) next
stores-end T next all = λ t l small.
    subst (IsFirst (λ k. (length T.events < k) × StoresElsewhere T t l k) (past_of T)) (sym (all t l small))
    (first-none (λ k. (length T.events < k) × StoresElsewhere T t l k) (past_of T)
    (λ k s. absurd (omega (arith, s.0, (act-within T k (Stores (s.1).0 ((s.1).2).1) (elsewhere-act T t l k s.1)).1))))

-- of an act that is no flush
none-open : (T : Recording) (i : ℕ) (a : Act) (b : Bool) → IsAct T i a → ((t l : ℕ) → a ≢ Flushes t l) → b ≡ false → (b ≡ true) ↔ IsOpenFlush T i
none-open T i a b is other off = (λ so. absurd (false≢true (sym off ∙ so)), λ h. absurd (other h.thread h.line (act-unique T i a (Flushes h.thread h.line) is h.is_flush)))

-- by the next fence and the next store to another line
open-by : (T : Recording) (n t l x y : ℕ) → IsAct T (suc n) (Flushes t l) → IsFirst (λ k. (suc n < k) × StoresElsewhere T t l k) (past_of T) x → IsFirst (λ k. (suc n < k) × IsAct T k (Fences t)) (past_of T) y → (nat_lt x y ≡ true) ↔ IsOpenFlush T (suc n)
open-by T n t l x y is next_store next_fence = go (cases_lt x y)
  where
    go : (x < y) ⊎ (y ≤ x) → (nat_lt x y ≡ true) ↔ IsOpenFlush T (suc n)
    go (inl before) =
        let store = next_store.has (omega (arith, next_fence.within)) in (
          λ _. record {
            thread = t;
            line = l;
            store = x;
            elsewhere = (store.1).0;
            is_flush = is;
            is_store = (store.1).2;
            other = (store.1).1;
            later = store.0;
            still_open = λ k. next_fence.none_before k.0 (omega (arith, k.2)) (k.1, k.3);
          },
          λ _. lt-ltb x y before,
        )
    go (inr from) = (λ so. absurd (false≢true (sym (le-ltb x y from) ∙ so)), λ h. absurd (other h))
      where
        clash : (store m : ℕ) → suc n < store → m ≢ l → (s : IsStoreBy T t m store) → ¬ FencesBetween T t (suc n) store → ⊥
        clash store m later apart s still_open = by_first (cases_lt store x)
          where
            stores : IsAct T store (Stores m s.1)
            stores = store-act T t m store s

            by_first : (store < x) ⊎ (x ≤ store) → ⊥
            by_first (inl early) = next_store.none_before store early (later, (m, apart, s))
            by_first (inr upto) =
                let fence = next_fence.has (omega (arith, (act-within T store (Stores m s.1) stores).1)) in
                let differ : store ≢ y = λ same. (let e = act-unique T y (Fences t) (Stores m s.1) fence.1 (subst (λ i. IsAct T i (Stores m s.1)) same stores) in cc) in
                still_open (y, fence.0, omega (arith, differ), fence.1)

        other : IsOpenFlush T (suc n) → ⊥
        other h =
            let both = act-unique T (suc n) (Flushes t l) (Flushes h.thread h.line) is h.is_flush in
            let thread : h.thread ≡ t = cc in
            let line : h.line ≡ l = cc in
            clash h.store h.elsewhere h.later (subst (λ m. h.elsewhere ≢ m) line h.other) (subst (λ v. IsStoreBy T v h.elsewhere h.store) thread h.is_store)
            (subst (λ v. ¬ FencesBetween T v (suc n) h.store) thread h.still_open)

-- of a kept flush, by the next fence and the next store to another line that are kept: its next fence is
module _ (T : Recording) (kept later : List ℕ) (keep : IsKeep T kept) (n : ℕ) (has : Has kept (suc n)) (rest : (k : ℕ) → Has later k ↔ (Has kept k × (suc n < k))) where
  next-fence : (t l y : ℕ) → IsAct T (suc n) (Flushes t l) → IsFirst (λ k. Has later k × IsAct T k (Fences t)) (past_of T) y → IsFirst (λ k. (suc n < k) × IsAct T k (Fences t)) (past_of T) y
  next-fence t l y is x = record { within = x.within; has = λ below. let h = x.has below in (((rest y).0 h.0).1, h.1); none_before = λ k below p. none k below p (cases_lt k (suc f.before)) }
    where
      f : IsNeededFlush T t l (suc n)
      f = kept-needed T t l (suc n) ((keep.just (suc n)).0 has) is

      none : (k : ℕ) → k < y → (suc n < k) × IsAct T k (Fences t) → (k < suc f.before) ⊎ (suc f.before ≤ k) → ⊥
      none k below p (inl early) = f.next_fence k p.0 early p.1
      none k below p (inr from) = x.none_before (suc f.before) (omega (arith, below, from)) ((rest (suc f.before)).1 (needing-kept T kept t l (suc n) keep f, f.later), f.is_fence)

  next-store : (t l x : ℕ) → IsFirst (λ k. Has later k × StoresElsewhere T t l k) (past_of T) x → IsFirst (λ k. (suc n < k) × StoresElsewhere T t l k) (past_of T) x
  next-store t l x first = first-same (λ k. Has later k × StoresElsewhere T t l k) (λ k. (suc n < k) × StoresElsewhere T t l k) (past_of T) x (λ k h. (((rest k).0 h.0).1, h.1)) (λ k h. (there k h, h.1)) first
    where
      there : (k : ℕ) → (suc n < k) × StoresElsewhere T t l k → Has later k
      there k h = (rest k).1 ((keep.just k).1 (Stays (Stores (h.1).0 ((h.1).2).1) (elsewhere-act T t l k h.1) refl), h.0)

  pub open-told : (fences : PerThread) (next : NextStores) (b : Bool) (u : ℕ) (a : Act) → IsAct T (suc n) a → u < 256 → ((t l : ℕ) → a ≡ Flushes t l → t ≡ u) →
      b ≡ open_so fences next a → FencesIn T later fences → StoresIn T later next → (b ≡ true) ↔ IsOpenFlush T (suc n)
  open-told fences next b u (Stores l w) is small by tells f g = none-open T (suc n) (Stores l w) b is (λ t k x. cc) tells
  open-told fences next b u (Clflushes l) is small by tells f g = none-open T (suc n) (Clflushes l) b is (λ t k x. cc) tells
  open-told fences next b u (Fences v) is small by tells f g = none-open T (suc n) (Fences v) b is (λ t k x. cc) tells
  open-told fences next b u Asserts is small by tells f g = none-open T (suc n) Asserts b is (λ t k x. cc) tells
  open-told fences next b u (Flushes t l) is small by tells f g = rw tells (open-by T n t l (elsewhere_at next t l) (of_thread fences t) is (next-store t l (elsewhere_at next t l) (g t l below)) (next-fence t l (of_thread fences t) is (f t below)))
    where
      below : t < 256
      below = let own : t ≡ u = by t l refl in omega (arith, own, small)

-- those of rising numbers that pass
rising-lower : (m j : ℕ) (xs : List ℕ) → m < j → IsRising j xs → IsRising m xs
rising-lower m j [] below x = tt
rising-lower m j (i ∷ xs) below x = (omega (arith, x.0), x.1)

pub filter-rising : (P : ℕ → Bool) (low : ℕ) (ks : List ℕ) → IsRising low ks → IsRising low (filter P ks)
filter-rising P low [] r = tt
filter-rising P low (k ∷ ks) r = go (P k) refl (filter-rising P k ks r.1)
  where
    go : (b : Bool) → P k ≡ b → IsRising k (filter P ks) → IsRising low (filter P (k ∷ ks))
    go true e rest = rw e (r.0, rest)
    go false e rest = rw e (rising-lower low k (filter P ks) r.0 rest)

pub filter-has : (P : ℕ → Bool) (ks : List ℕ) (i : ℕ) → Has (filter P ks) i ↔ (Has ks i × (P i ≡ true))
filter-has P [] i = (λ h. absurd h, λ h. absurd h.0)
filter-has P (k ∷ ks) i = go (P k) refl (filter-has P ks i)
  where
    go : (b : Bool) → P k ≡ b → Has (filter P ks) i ↔ (Has ks i × (P i ≡ true)) → Has (filter P (k ∷ ks)) i ↔ (Has (k ∷ ks) i × (P i ≡ true))
    go true e rest =
        rw e (λ h. elim h [ inl same ↦ (inl same, ap P (sym same) ∙ e) | inr more ↦ (inr (rest.0 more).0, (rest.0 more).1) ], λ h. elim h.0 [ inl same ↦ inl same | inr more ↦ inr (rest.1 (more, h.1)) ])
    go false e rest = rw e (λ h. (inr (rest.0 h).0, (rest.0 h).1), λ h. elim h.0 [ inl same ↦ absurd (false≢true (sym e ∙ ap P same ∙ h.1)) | inr more ↦ rest.1 (more, h.1) ])

-- a flush is that of its event's thread
pub flush-thread : (f : Layout) (u : ℕ) (o : Op) (t l : ℕ) → act_of f u o ≡ Flushes t l → t ≡ u
flush-thread f u (Store w) t l e = absurd (cc)
flush-thread f u (Clwb a) t l e = cc
flush-thread f u (ClflushOpt a) t l e = cc
flush-thread f u (Clflush a) t l e = absurd (cc)
flush-thread f u Sfence t l e = absurd (cc)
flush-thread f u Mfence t l e = absurd (cc)
flush-thread f u (IsPersist r) t l e = absurd (cc)
flush-thread f u (IsOrderedBefore r q) t l e = absurd (cc)
