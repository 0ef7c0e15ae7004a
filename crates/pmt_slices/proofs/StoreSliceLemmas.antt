-- The slice of a store that is never persisted, or late.
use Rattle.pmt_slices.proofs.Prelude.{◌≡◌, ◌≢◌, ℕ, zero, suc, ◌<◌, ◌≤◌, ◌⊎◌, inl, inr, Bool, true, false, List, length, refl, sym, ap, subst, ◌∙◌, arith, ◌↔◌, cases_eq, cases_lt, false≢true, same_Some, Layout, Written, Op, Store, Sfence, Mfence, Act, Stores, Fences, Recording, IsAct, act_of, IsRising, Has, cut, matching_place, IsSafe, AllByRecursion, Cause, IsCause, act-unique, act-within, history-step, safe_store-later, IsFirst, IsFenceAfter, past_of, IsSubsequence, Tells, cause_in, IsChosen, Chooses, IsOfStore, IsStoreBy, line_in, IsLateStore, IsLostOrLate, IsLate, IsEarlyFence, IsInStoreSlice, OfStore, OwnFence, IsStoreSlice, StoreSliceTells, is_fence, IsFate, IsOfFate}
use Rattle.pmt_slices.specs.declared.store_slicing.Fate.{Fate}
use Rattle.pmt_slices.specs.Slices.{IsLost}
use Rattle.pmt_slices.proofs.CuttingLemmas.{kept-act, act-origin, placed-later, later-origin}
use Rattle.pmt_slices.proofs.TellLemmas.{completed-is_safe}
use Rattle.pmt_slices.proofs.SliceLemmas.{tells-within, tells-some, all-has}
use Rattle.pmt_slices.proofs.CauseLemmas.{safe-same, cause-same}
use Rattle.pmt_slices.proofs.ComingLemmas.{tells-coming, coming-tells}
use Rattle.pmt_slices.proofs.ChosenLemmas.{chosen-within}

-- the store's act
pub store-by : (T : Recording) (t j : ℕ) (w : Written) → IsStoreBy T t w j → IsAct T j (Stores (line_in T w) w)
store-by T t j w is = (is.made, is.is_made, ap (act_of T.format is.made.thread) is.op)

-- an event is one store, by one thread
same-store : (T : Recording) (t u j : ℕ) (w v : Written) → IsStoreBy T t w j → IsStoreBy T u v j → (t ≡ u) × (w ≡ v)
same-store T t u j w v is other =
    let same : is.made ≡ other.made = same_Some is.made other.made (sym is.is_made ∙ other.is_made) in
    let op : Store w ≡ Store v = sym is.op ∙ ap (λ e. e.op) same ∙ other.op in
    (sym is.thread ∙ ap (λ e. e.thread) same ∙ other.thread, cc)

-- a store that is safe stays so
stays-safe : (T : Recording) (l p q j : ℕ) (w : Written) → IsAct T j (Stores l w) → p ≤ q → IsSafe T l p j → IsSafe T l q j
stays-safe T l p q j w is by safe = safe_store-later T l p q j by safe

-- ---- Fences

fence-act : (f : Layout) (t : ℕ) (op : Op) → is_fence op ≡ true → act_of f t op ≡ Fences t
fence-act f t Sfence e = refl
fence-act f t Mfence e = refl
fence-act f t op e = absurd (false≢true e)

-- an event that is no fence by the thread
other-act : (f : Layout) (u t : ℕ) (op : Op) → (u ≡ t → is_fence op ≡ false) → act_of f u op ≢ Fences t
other-act f u t Sfence other e = let same : u ≡ t = cc in false≢true (sym (other same))
other-act f u t Mfence other e = let same : u ≡ t = cc in false≢true (sym (other same))
other-act f u t op other e = cc

-- No fence of thread t stands after event j up to place n.
abbrev pub NoFence : Recording → ℕ → ℕ → ℕ → Type 0
NoFence T t j n = (k : ℕ) → k ≤ n → IsFenceAfter T t j k → ⊥

pub no-fence-more : (T : Recording) (t j i u : ℕ) (op : Op) → IsAct T (suc i) (act_of T.format u op) → (u ≡ t → is_fence op ≡ false) → NoFence T t j i → NoFence T t j (suc i)
no-fence-more T t j i u op is other none k by (after, fence) = elim (cases_lt i k) [
  | inl here ↦
      let e : k ≡ suc i = omega arith in
      other-act T.format u t op other (act-unique T (suc i) (act_of T.format u op) (Fences t) is (subst (λ m. IsAct T m (Fences t)) e fence))
  | inr before ↦ none k before (after, fence)
]

pub fence-found : (T : Recording) (t j i u : ℕ) (op : Op) → IsAct T (suc i) (act_of T.format u op) → u ≡ t → is_fence op ≡ true → j ≤ i → suc i < past_of T → NoFence T t j i → IsFirst (IsFenceAfter T t j) (past_of T) (suc i)
fence-found T t j i u op is thread fence after within none = record {
  within = omega arith;
  has = λ h. (omega arith, subst (λ a. IsAct T (suc i) a) (fence-act T.format u op fence ∙ ap Fences thread) is);
  none_before = λ k before x. none k (omega arith) x;
}

pub no-fence-found : (T : Recording) (t j n : ℕ) → length T.events ≤ n → NoFence T t j n → IsFirst (IsFenceAfter T t j) (past_of T) (past_of T)
no-fence-found T t j n all none = record { within = omega arith; has = λ h. absurd (omega arith); none_before = λ k before x. none k (omega arith) x }

-- ---- What a fate tells

module _ (T : Recording) (t j : ℕ) (w : Written) (f : Fate) (is : IsStoreBy T t w j) (fate : IsFate T t w j f) where
  own : IsAct T j (Stores (line_in T w) w)
  own = store-by T t j w is

  pub unsafe-before : (k : ℕ) → k < f.coming.safe → ¬ IsSafe T (line_in T w) k j
  unsafe-before k less safe = fate.coming.safe.none_before k less ((completed-is_safe T (line_in T w) j k w own).1 safe)

  pub safe-from : (k : ℕ) → f.coming.safe ≤ k → k ≤ length T.events → IsSafe T (line_in T w) k j
  safe-from k from within = stays-safe T (line_in T w) f.coming.safe k j w own from ((completed-is_safe T (line_in T w) j f.coming.safe w own).0 (fate.coming.safe.has (omega arith)))

  early-first : f.first < past_of T → IsEarlyFence T t j f.first
  early-first h = record { is_fence = (fate.first.has h).1; after = (fate.first.has h).0; few = λ a b after later before fence. absurd (fate.first.none_before a (omega arith) (after, fence)) }

  early-second : f.second < past_of T → IsEarlyFence T t j f.second
  early-second h =
      let x = fate.second.has h in
      let y = fate.first.has (omega (arith, x.0, h)) in
      record {
        is_fence = x.1;
        after = omega (arith, y.0, x.0);
        few = λ a b after later before fence other. elim (cases_lt a f.first) [
          | inl sooner ↦ fate.first.none_before a sooner (after, fence)
          | inr from ↦ fate.second.none_before b before (omega (arith, from, later), other)
        ];
      }

  -- an early fence is one of the two
  early-which : (k : ℕ) → k ≤ length T.events → IsEarlyFence T t j k → (k ≡ f.first) ⊎ (k ≡ f.second)
  early-which k within early = elim (cases_lt k f.first) [
    | inl sooner ↦ absurd (fate.first.none_before k sooner (early.after, early.is_fence))
    | inr from ↦ elim (cases_lt f.first k) [
      | inr same ↦ inl (omega (arith, from, same))
      | inl later ↦ elim (cases_lt k f.second) [
        | inl sooner ↦ absurd (fate.second.none_before k sooner (later, early.is_fence))
        | inr beyond ↦ elim (cases_lt f.second k) [
          | inr same ↦ inr (omega (arith, beyond, same))
          | inl third ↦
              let x = fate.first.has (omega (arith, later, within)) in
              let y = fate.second.has (omega (arith, third, within)) in
              absurd (early.few f.first f.second x.0 y.0 third x.1 y.1)
        ]
      ]
    ]
  ]

  -- where the store is not safe
  before-safe : (k : ℕ) → k ≤ length T.events → ¬ IsSafe T (line_in T w) k j → k < f.coming.safe
  before-safe k within unsafe = elim (cases_lt k f.coming.safe) [ inl less ↦ less | inr from ↦ absurd (unsafe (safe-from k from within)) ]

  pub slice-made : (K : List ℕ) (before chosen : List Bool) → IsRising 0 K → ((k : ℕ) → Has K k ↔ IsChosen chosen k) → ((k : ℕ) → IsChosen before k → ⊥) → length before ≡ length T.events →
      Chooses (IsOfFate j f (length before)) before chosen → IsStoreSlice T j K
  slice-made K before chosen rising just none size chooses = record { thread = t; what = w; store = is; rising = rising; just = λ k. (λ has. there k ((just k).0 has), λ x. (just k).1 (back k x)) }
    where
      n : ℕ
      n = length T.events

      by : j ≤ length T.events
      by = (act-within T j (Stores (line_in T w) w) own).1

      there : (k : ℕ) → IsChosen chosen k → IsInStoreSlice T t (line_in T w) j k
      there k at = elim (chooses.just k at) [
        | inl old ↦ absurd (none k old)
        | inr new ↦ elim new [
          | inl of ↦
              OfStore (coming-tells T (line_in T w) j n k w f.coming own fate.coming (omega (arith, (chosen-within chosen k at).1, chooses.size, size)) (subst (λ m. IsOfStore j f.coming m k) size of))
          | inr fences ↦ elim fences [
            | inl x ↦ subst (IsInStoreSlice T t (line_in T w) j) (sym x.1) (OwnFence (early-first (omega (arith, x.0, fate.coming.safe.within))) (unsafe-before f.first x.0))
            | inr x ↦ subst (IsInStoreSlice T t (line_in T w) j) (sym x.1) (OwnFence (early-second (omega (arith, x.0, fate.coming.safe.within))) (unsafe-before f.second x.0))
          ]
        ]
      ]

      back : (k : ℕ) → IsInStoreSlice T t (line_in T w) j k → IsChosen chosen k
      back k (OfStore tells) =
          chooses.own k (tells-some T n (line_in T w) j k w own tells) (omega (arith, tells-within T n (line_in T w) j k w own by tells, size))
          (inl (subst (λ m. IsOfStore j f.coming m k) (sym size) (tells-coming T (line_in T w) j n k w f.coming own fate.coming tells)))
      back k (OwnFence early unsafe) =
          let within = (act-within T k (Fences t) early.is_fence).1 in
          let less = before-safe k within unsafe in
          let which = early-which k within early in
          chooses.own k (omega (arith, early.after)) (omega (arith, within, size)) (elim which [
            | inl e ↦ inr (inl (omega (arith, less, e), e))
            | inr e ↦ inr (inr (omega (arith, less, e), e))
          ])

  -- whether it is lost, or late
  pub is-lost : length T.events < f.coming.safe → IsLostOrLate T j
  is-lost less = IsLost t w is (unsafe-before (length T.events) less)

  pub is-late : f.second < f.coming.safe → IsLostOrLate T j
  is-late less =
      let h : f.second < past_of T = omega (arith, less, fate.coming.safe.within) in
      let x = fate.second.has h in
      let y = fate.first.has (omega (arith, x.0, h)) in
      IsLate t w is (record { first = f.first; second = f.second; is_first = y.1; is_second = x.1; after = y.0; later = x.0; unsafe = unsafe-before f.second less })

  pub is-neither : f.coming.safe ≤ length T.events → f.coming.safe ≤ f.second → ¬ IsLostOrLate T j
  is-neither within early (IsLost u v other unsafe) =
      let same = same-store T t u j w v is other in
      unsafe (subst (λ x. IsSafe T (line_in T x) (length T.events) j) same.1 (safe-from (length T.events) within (omega arith)))
  is-neither within early (IsLate u v other late) =
      let same = same-store T t u j w v is other in
      let first = subst (λ x. IsAct T late.first (Fences x)) (sym same.0) late.is_first in
      let second = subst (λ x. IsAct T late.second (Fences x)) (sym same.0) late.is_second in
      let before : f.first ≤ late.first = elim (cases_lt late.first f.first) [ inl less ↦ absurd (fate.first.none_before late.first less (late.after, first)) | inr more ↦ more ] in
      let after : f.second ≤ late.second = elim (cases_lt late.second f.second) [
        | inl less ↦ absurd (fate.second.none_before late.second less (omega (arith, before, late.later), second))
        | inr more ↦ more
      ] in
      late.unsafe (subst (λ x. IsSafe T (line_in T x) late.second j) same.1 (safe-from late.second (omega (arith, early, after)) (act-within T late.second (Fences u) late.is_second).1))

-- ---- What the slice tells

-- a slice has events of the trace alone
pub store-slice-within : (T : Recording) (j : ℕ) (K : List ℕ) → IsStoreSlice T j K → AllByRecursion (λ k. k ≤ length T.events) K
store-slice-within T j K s = all-has (λ k. k ≤ length T.events) K (λ k has. go k ((s.just k).0 has))
  where
    own : IsAct T j (Stores (line_in T s.what) s.what)
    own = store-by T s.thread j s.what s.store

    go : (k : ℕ) → IsInStoreSlice T s.thread (line_in T s.what) j k → k ≤ length T.events
    go k (OfStore tells) = tells-within T (length T.events) (line_in T s.what) j k s.what own (act-within T j (Stores (line_in T s.what) s.what) own).1 tells
    go k (OwnFence early unsafe) = (act-within T k (Fences s.thread) early.is_fence).1

-- an event is a fence of the thread, or is not
fence-dec : (T : Recording) (t n : ℕ) → IsAct T n (Fences t) ⊎ (IsAct T n (Fences t) → ⊥)
fence-dec T t zero = inr (λ is. absurd (omega (arith, (act-within T 0 (Fences t) is).0)))
fence-dec T t (suc n) = elim (history-step T n) [
  | inl x ↦ go x.0 x.1
  | inr x ↦ inr (λ is. absurd (omega (arith, x.0, (act-within T (suc n) (Fences t) is).1)))
]
  where
    go : (a : Act) → IsAct T (suc n) a → IsAct T (suc n) (Fences t) ⊎ (IsAct T (suc n) (Fences t) → ⊥)
    go (Fences u) is = elim (cases_eq u t) [
      | inl same ↦ inl (subst (λ v. IsAct T (suc n) (Fences v)) same is)
      | inr apart ↦ inr (λ f. let e = act-unique T (suc n) (Fences u) (Fences t) is f in let same : u ≡ t = cc in apart same)
    ]
    go a is = inr (λ f. let e = act-unique T (suc n) a (Fences t) is f in cc)

-- Event f is the first fence of thread t after event j.
record IsFirstBy (T : Recording) (t j f : ℕ) : Type 0 where
  pub is_fence : IsAct T f (Fences t)
  pub after : j < f
  pub first : (k : ℕ) → j < k → k < f → ¬ IsAct T k (Fences t)

first-by-or : (T : Recording) (t j n : ℕ) → ((f : ℕ) × (f ≤ n) × IsFirstBy T t j f) ⊎ ((k : ℕ) → j < k → k ≤ n → ¬ IsAct T k (Fences t))
first-by-or T t j zero = inr (λ k after by is. absurd (omega arith))
first-by-or T t j (suc n) = elim (first-by-or T t j n) [
  | inl x ↦ inl (x.0, omega (arith, x.1), x.2)
  | inr none ↦ elim (cases_lt j (suc n)) [
    | inl after ↦ elim (fence-dec T t (suc n)) [
      | inl here ↦ inl (suc n, omega arith, record { is_fence = here; after = after; first = λ k later before. none k later (omega arith) })
      | inr other ↦ inr (λ k later by. elim (cases_lt k (suc n)) [
        | inl sooner ↦ none k later (omega arith)
        | inr last ↦ let e : suc n ≡ k = omega arith in subst (λ i. ¬ IsAct T i (Fences t)) e other
      ])
    ]
    | inr before ↦ inr (λ k later by is. absurd (omega arith))
  ]
]

first-by : (T : Recording) (t j i : ℕ) → IsAct T i (Fences t) → j < i → (f : ℕ) × (f ≤ i) × IsFirstBy T t j f
first-by T t j i is after = elim (first-by-or T t j i) [ inl x ↦ x | inr none ↦ absurd (none i after (omega arith) is) ]

module _ (T : Recording) (j : ℕ) (K : List ℕ) (s : IsStoreSlice T j K) where
  own-act : IsAct T j (Stores (line_in T s.what) s.what)
  own-act = store-by T s.thread j s.what s.store

  sub : IsSubsequence T K
  sub = record { rising = s.rising; within = λ k has. within k ((s.just k).0 has) }
    where
      within : (k : ℕ) → IsInStoreSlice T s.thread (line_in T s.what) j k → k ≤ length T.events
      within k (OfStore tells) = tells-within T (length T.events) (line_in T s.what) j k s.what own-act (act-within T j (Stores (line_in T s.what) s.what) own-act).1 tells
      within k (OwnFence early unsafe) = (act-within T k (Fences s.thread) early.is_fence).1

  has-tells : (k : ℕ) → Tells T (length T.events) (line_in T s.what) j k → Has K k
  has-tells k tells = (s.just k).1 (OfStore tells)

  slice-safe : (q : ℕ) → q ≤ length T.events → IsSafe T (line_in T s.what) q j ↔ IsSafe (cut T K) (line_in T s.what) (matching_place K q) (matching_place K j)
  slice-safe q by = safe-same T (length T.events) K (line_in T s.what) j q s.what sub own-act has-tells by

  late-there : IsLateStore T s.thread (line_in T s.what) j → IsLateStore (cut T K) s.thread (line_in T s.what) (matching_place K j)
  late-there late =
      let by = (act-within T two.0 (Fences s.thread) two.2.is_fence).1 in
      let unsafe : ¬ IsSafe T (line_in T s.what) two.0 j = λ safe. late.unsafe (safe_store-later T (line_in T s.what) two.0 late.second j two.1 safe) in
      let sooner : ¬ IsSafe T (line_in T s.what) one.0 j = λ safe. unsafe (safe_store-later T (line_in T s.what) one.0 two.0 j (omega (arith, two.2.after)) safe) in
      let has-one = (s.just one.0).1 (OwnFence (record { is_fence = one.2.is_fence; after = one.2.after; few = λ a b after later before fence. absurd (one.2.first a after (omega arith) fence) }) sooner) in
      let has-two = (s.just two.0).1 (OwnFence (record { is_fence = two.2.is_fence; after = omega (arith, one.2.after, two.2.after); few = λ a b after later before fence other. third a b after later before fence other (cases_lt a one.0) }) unsafe) in
      record {
        first = matching_place K one.0;
        second = matching_place K two.0;
        is_first = kept-act T K one.0 (Fences s.thread) sub has-one one.2.is_fence;
        is_second = kept-act T K two.0 (Fences s.thread) sub has-two two.2.is_fence;
        after = placed-later T K j one.0 sub has-one one.2.after;
        later = placed-later T K one.0 two.0 sub has-two two.2.after;
        unsafe = λ safe. unsafe ((slice-safe two.0 by).1 safe);
      }
    where
      one : (f : ℕ) × (f ≤ late.first) × IsFirstBy T s.thread j f
      one = first-by T s.thread j late.first late.is_first late.after

      two : (f : ℕ) × (f ≤ late.second) × IsFirstBy T s.thread one.0 f
      two = first-by T s.thread one.0 late.second late.is_second (omega (arith, one.1, late.later))

      third : (a b : ℕ) → j < a → a < b → b < two.0 → IsAct T a (Fences s.thread) → IsAct T b (Fences s.thread) → (a < one.0) ⊎ (one.0 ≤ a) → ⊥
      third a b after later before fence other (inl less) = one.2.first a after less fence
      third a b after later before fence other (inr more) = two.2.first b (omega arith) before other

  late-back : IsLateStore (cut T K) s.thread (line_in T s.what) (matching_place K j) → IsLateStore T s.thread (line_in T s.what) j
  late-back late =
      let a = act-origin T K late.first (Fences s.thread) sub late.is_first in
      let b = act-origin T K late.second (Fences s.thread) sub late.is_second in
      record {
        first = a.number;
        second = b.number;
        is_first = a.is_act;
        is_second = b.is_act;
        after = later-origin K j a.number (omega (arith, late.after, a.place));
        later = later-origin K a.number b.number (omega (arith, late.later, a.place, b.place));
        unsafe = λ safe.
            late.unsafe (subst (λ m. IsSafe (cut T K) (line_in T s.what) m (matching_place K j)) b.place ((slice-safe b.number (act-within T b.number (Fences s.thread) b.is_act).1).0 safe));
      }

  slice-cause : (q : ℕ) (c : Cause) → q ≤ length T.events → IsCause T (line_in T s.what) q j c → IsCause (cut T K) (line_in T s.what) (matching_place K q) (matching_place K j) (cause_in K c)
  slice-cause q c by why = cause-same T (length T.events) K (line_in T s.what) j q s.what sub own-act has-tells by c why

pub store_slice_tells : StoreSliceTells
store_slice_tells = record {
  safe = λ T j q K s by. slice-safe T j K s q by;
  cause = λ T j q K c s by why. slice-cause T j K s q c by why;
  late = λ T j K s. (late-there T j K s, late-back T j K s);
}
