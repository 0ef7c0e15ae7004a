-- The last complete flush of a line, going back event by event, and what is safe by it.
use Rattle.std.proofs.Common.{◌≡◌, ◌≢◌, ◌↔◌, ℕ, zero, suc, ◌<◌, ◌≤◌, ◌⊎◌, ◌==◌, inl, inr, Bool, true, false, List, length, Option, None, Some, refl, sym, ap, subst, ◌∙◌, arith, get_or, set, eqb-true}
use Rattle.std.specs.Prelude.{◌&&◌, if◌then◌else◌, slice_get}
use Rattle.std.proofs.Math.ListN.{length-set, replicate}
use Rattle.std.proofs.lemmas.List.{get_or-set_same, get_or-set_other, get_or-replicate, length-replicate}
use Rattle.std.proofs.lemmas.Bool.{false≢true, cases_lt, cases_eq, and_parts, and_from, eq-eqb, ne_eqb}
use Rattle.pmt_explain.specs.Prelude.{Event, Layout, Act, Stores, Flushes, Clflushes, Fences, Asserts, Recording, IsTrace, IsAct, act, count_at, front_at, persisted_at}
use Rattle.pmt_laws.proofs.Histories.{act-unique, act-within, count-mono}
use Rattle.pmt_laws.proofs.FrontLemmas.{front-reached, completed-le_front}
use Rattle.pmt_reasons.proofs.ScanLemmas.{IsThreadFit, thread-fits, each-at}
use Rattle.pmt_explain.specs.Crashes.{IsCompleted, AtOnce, Fenced, IsLastCompleted, SafeBeforeLastFlush, Numbers, flush_at, completes, fenced_before, persisted_by}

-- what a complete flush marked is safe
safe-least : (T : Recording) (l n k : ℕ) → (k ≡ 0) ⊎ IsCompleted T l n k → count_at T l k ≤ front_at T l n
safe-least T l n k (inl none) = let P : ℕ → Type 0 = λ j. count_at T l j ≤ front_at T l n in subst P (sym none) (omega arith)
safe-least T l n k (inr (AtOnce is by_now)) = completed-le_front T l n (count_at T l k) (inr (record { clflush = k; is_clflush = is; by_now = by_now; stores = refl }))
safe-least T l n k (inr (Fenced t j flush fence later by_now)) =
    completed-le_front T l n (count_at T l k) (inl (record { thread = t; flush = k; fence = j; is_flush = flush; is_fence = fence; later = later; by_now = by_now; stores = refl }))

-- the stores that are safe are those before the last complete flush
pub safe_before_last_flush : SafeBeforeLastFlush
safe_before_last_flush T l n k x =
    let least = safe-least T l n k x.reached in
    elim (front-reached T l n) [
      | inl none ↦ omega arith
      | inr done ↦ elim done [
        | inl f ↦
            let before = x.last f.flush (Fenced f.thread f.fence f.is_flush f.is_fence f.later f.by_now) in
            omega (arith, least, f.stores, count-mono T l f.flush k before)
        | inr c ↦ let before = x.last c.clflush (AtOnce c.is_clflush c.by_now) in omega (arith, least, c.stores, count-mono T l c.clflush k before)
      ]
    ]

-- it comes by the place
last-by_now : (T : Recording) (l n k : ℕ) → (k ≡ 0) ⊎ IsCompleted T l n k → k ≤ n
last-by_now T l n k (inl none) = omega arith
last-by_now T l n k (inr (AtOnce is by_now)) = by_now
last-by_now T l n k (inr (Fenced t j flush fence later by_now)) = omega arith

-- the persisted stores of a line are those by a place
choice-at : (T : Recording) (l n k : ℕ) (b : Bool) → front_at T l n ≡ count_at T l k → (if b then count_at T l n else front_at T l n) ≡ count_at T l (if b then n else k)
choice-at T l n k true e = refl
choice-at T l n k false e = e

pub persisted-by : (T : Recording) (l n k : ℕ) (full : Option ℕ) → IsLastCompleted T l n k → persisted_at T n full l ≡ count_at T l (persisted_by n full k l)
persisted-by T l n k None x = safe_before_last_flush T l n k x
persisted-by T l n k (Some f) x = choice-at T l n k (l == f) (safe_before_last_flush T l n k x)

choice-within : (n k : ℕ) (b : Bool) → k ≤ n → (if b then n else k) ≤ n
choice-within n k true h = omega arith
choice-within n k false h = h

pub persisted-within : (T : Recording) (l n k : ℕ) (full : Option ℕ) → IsLastCompleted T l n k → persisted_by n full k l ≤ n
persisted-within T l n k None x = last-by_now T l n k x.reached
persisted-within T l n k (Some f) x = choice-within n k (l == f) (last-by_now T l n k x.reached)

-- the thread fences among the events after event i up to n
abbrev pub IsFencing : Recording → ℕ → ℕ → ℕ → Type 0
IsFencing T t i n = (j : ℕ) × (i < j) × (j ≤ n) × IsAct T j (Fences t)

abbrev pub MarksFences : Recording → ℕ → ℕ → List Bool → Type 0
MarksFences T i n fenced = (t : ℕ) → t < 256 → (get_or fenced t false ≡ true) ↔ IsFencing T t i n

-- of the flushes after event i, k is the last complete one, or there is none
abbrev pub IsLastAfter : Recording → ℕ → ℕ → ℕ → ℕ → Type 0
IsLastAfter T l n i k = IsLastCompleted T l n k ⊎ ((k ≡ 0) × ((j : ℕ) → i < j → ¬ IsCompleted T l n j))

-- what is known once all events after event i were met
pub record IsGoneBack (T : Recording) (n i : ℕ) (fenced : List Bool) (flushes : Numbers) : Type 0 where
  pub size : length fenced ≡ 256
  pub fences : MarksFences T i n fenced
  pub lasts : (l : ℕ) → IsLastAfter T l n i (flush_at flushes l)

-- an event with another act is no complete flush of the line
not-complete : (T : Recording) (l n m : ℕ) (a : Act) → IsAct T m a → ((t : ℕ) → a ≢ Flushes t l) → a ≢ Clflushes l → ¬ IsCompleted T l n m
not-complete T l n m a is flush clflush (AtOnce at by_now) = clflush (act-unique T m a (Clflushes l) is at)
not-complete T l n m a is flush clflush (Fenced t j at fence later by_now) = flush t (act-unique T m a (Flushes t l) is at)

-- the test of an act tells whether the event is a complete flush of the line
complete-test : (T : Recording) (l n i : ℕ) (a : Act) (fenced : List Bool) → IsAct T (suc i) a → IsThreadFit a → suc i ≤ n → MarksFences T (suc i) n fenced →
    (completes l a fenced ≡ true) ↔ IsCompleted T l n (suc i)
complete-test T l n i (Stores k w) fenced is fits within marks = (λ e. absurd (false≢true e), λ c. absurd (not-complete T l n (suc i) (Stores k w) is (λ t e. cc) (λ e. cc) c))
complete-test T l n i (Flushes t k) fenced is fits within marks = (there, back)
  where
    there : ((k == l) && get_or fenced t false) ≡ true → IsCompleted T l n (suc i)
    there e =
        let both = and_parts (k == l) (get_or fenced t false) e in
        let x = (marks t fits).0 both.1 in
        Fenced t x.0 (subst (λ j. IsAct T (suc i) (Flushes t j)) (eqb-true k l both.0) is) x.3 x.1 x.2

    back : IsCompleted T l n (suc i) → ((k == l) && get_or fenced t false) ≡ true
    back (AtOnce at by_now) = let same = act-unique T (suc i) (Flushes t k) (Clflushes l) is at in absurd (cc)
    back (Fenced u j at fence later by_now) =
        let same = act-unique T (suc i) (Flushes t k) (Flushes u l) is at in
        let thread : u ≡ t = cc in
        let line : k ≡ l = cc in
        and_from (k == l) (get_or fenced t false) (eq-eqb k l line) ((marks t fits).1 (j, later, by_now, subst (λ v. IsAct T j (Fences v)) thread fence))
complete-test T l n i (Clflushes k) fenced is fits within marks = (
  λ e. AtOnce (subst (λ j. IsAct T (suc i) (Clflushes j)) (eqb-true k l e) is) within,
  back,
)
  where
    back : IsCompleted T l n (suc i) → (k == l) ≡ true
    back (AtOnce at by_now) = let same = act-unique T (suc i) (Clflushes k) (Clflushes l) is at in let line : k ≡ l = cc in eq-eqb k l line
    back (Fenced u j at fence later by_now) = let same = act-unique T (suc i) (Clflushes k) (Flushes u l) is at in absurd (cc)
complete-test T l n i (Fences t) fenced is fits within marks = (λ e. absurd (false≢true e), λ c. absurd (not-complete T l n (suc i) (Fences t) is (λ u e. cc) (λ e. cc) c))
complete-test T l n i Asserts fenced is fits within marks = (λ e. absurd (false≢true e), λ c. absurd (not-complete T l n (suc i) Asserts is (λ t e. cc) (λ e. cc) c))

-- one more event, which is a complete flush of the line where the test says so
last-back : (T : Recording) (l n i k : ℕ) (b : Bool) → (b ≡ true) ↔ IsCompleted T l n (suc i) → IsLastAfter T l n (suc i) k → IsLastAfter T l n i (if b && (k == 0) then suc i else k)
last-back T l n i zero true test (inl x) = absurd (omega (arith, x.last (suc i) (test.0 refl)))
last-back T l n i (suc k) true test (inl x) = let some : (suc k == 0) ≡ false = ne_eqb (suc k) 0 (λ e. absurd (omega (arith, e))) in rw some (inl x)
last-back T l n i k false test (inl x) = inl x
last-back T l n i zero true test (inr x) = inl (record {
  reached = inr (test.0 refl);
  last = λ j done. elim (cases_lt (suc i) j) [ inl after ↦ absurd (x.1 j after done) | inr before ↦ before ];
})
last-back T l n i (suc k) true test (inr x) = absurd (omega (arith, x.0))
last-back T l n i k false test (inr x) = inr (
  x.0,
  λ j after done. elim (cases_lt (suc i) j) [
    | inl later ↦ x.1 j later done
    | inr upto ↦ let e : j ≡ suc i = omega arith in false≢true (test.1 (subst (λ m. IsCompleted T l n m) e done))
  ],
)

-- one more event that is no fence of the thread
fencing-other : (T : Recording) (t n i : ℕ) (b : Bool) → (b ≡ true) ↔ IsFencing T t (suc i) n → ¬ IsAct T (suc i) (Fences t) → (b ≡ true) ↔ IsFencing T t i n
fencing-other T t n i b before none = (
  λ e. let x = before.0 e in (x.0, omega (arith, x.1), x.2, x.3),
  λ (j, after, by_now, is). elim (cases_lt (suc i) j) [
    | inl later ↦ before.1 (j, later, by_now, is)
    | inr upto ↦ let e : j ≡ suc i = omega arith in let P : ℕ → Type 0 = λ m. IsAct T m (Fences t) in absurd (none (subst P e is))
  ],
)

fences-other : (T : Recording) (n i : ℕ) (a : Act) (fenced : List Bool) → IsAct T (suc i) a → ((t : ℕ) → a ≢ Fences t) → MarksFences T (suc i) n fenced → MarksFences T i n fenced
fences-other T n i a fenced is apart marks t fits = fencing-other T t n i (get_or fenced t false) (marks t fits) (λ at. apart t (act-unique T (suc i) a (Fences t) is at))

fences-back : (T : Recording) (n i : ℕ) (a : Act) (fenced : List Bool) → IsAct T (suc i) a → IsThreadFit a → suc i ≤ n → length fenced ≡ 256 → MarksFences T (suc i) n fenced →
    MarksFences T i n (fenced_before a fenced)
fences-back T n i (Stores k w) fenced is fits within size marks t small = fences-other T n i (Stores k w) fenced is (λ v e. cc) marks t small
fences-back T n i (Flushes u k) fenced is fits within size marks t small = fences-other T n i (Flushes u k) fenced is (λ v e. cc) marks t small
fences-back T n i (Clflushes k) fenced is fits within size marks t small = fences-other T n i (Clflushes k) fenced is (λ v e. cc) marks t small
fences-back T n i (Fences u) fenced is fits within size marks t small = go (cases_eq t u)
  where
    go : (t ≡ u) ⊎ (t ≡ u → ⊥) → (get_or (set fenced u true) t false ≡ true) ↔ IsFencing T t i n
    go (inl same) = (
      λ e. (suc i, omega arith, within, subst (λ v. IsAct T (suc i) (Fences v)) (sym same) is),
      λ x. ap (λ k. get_or (set fenced u true) k false) same ∙ get_or-set_same fenced u true false (omega arith),
    )
    go (inr apart) =
        let other : get_or (set fenced u true) t false ≡ get_or fenced t false = get_or-set_other fenced u t true false apart in
        let P : Bool → Type 0 = λ b. (b ≡ true) ↔ IsFencing T t i n in
        subst P (sym other) (fencing-other T t n i (get_or fenced t false) (marks t small) (λ at. let same = act-unique T (suc i) (Fences u) (Fences t) is at in absurd (apart (cc))))
fences-back T n i Asserts fenced is fits within size marks t small = fences-other T n i Asserts fenced is (λ v e. cc) marks t small

size-back : (a : Act) (fenced : List Bool) → length (fenced_before a fenced) ≡ length fenced
size-back (Stores k w) fenced = refl
size-back (Flushes u k) fenced = refl
size-back (Clflushes k) fenced = refl
size-back (Fences u) fenced = length-set fenced u true
size-back Asserts fenced = refl

-- before the last event
pub gone-start : (T : Recording) (n : ℕ) (fenced : List Bool) (flushes : Numbers) → n ≤ length T.events → fenced ≡ replicate 256 false → ((l : ℕ) → flush_at flushes l ≡ 0) → IsGoneBack T n n fenced flushes
gone-start T n fenced flushes within start none = record {
  size = ap (λ bs. length bs) start ∙ length-replicate 256 false;
  fences = λ t small. (
    λ e. absurd (false≢true (sym (ap (λ bs. get_or bs t false) start ∙ get_or-replicate 256 t false false small) ∙ e)),
    λ (j, after, by_now, is). absurd (omega arith),
  );
  lasts = λ l. inr (none l, λ j after done. past l j after done);
}
  where
    past : (l j : ℕ) → n < j → ¬ IsCompleted T l n j
    past l j after (AtOnce is by_now) = absurd (omega arith)
    past l j after (Fenced t k flush fence later by_now) = absurd (omega arith)

-- one more event, at an index of the list
pub gone-back : (T : Recording) (f : Layout) (es : List Event) (n m i number : ℕ) (e : Event) (fenced marked : List Bool) (flushes noted : Numbers) →
    f ≡ T.format → es ≡ T.events → m ≡ suc i → number ≡ m → m ≤ n → slice_get es i ≡ Some e → IsTrace T → marked ≡ fenced_before (act f e) fenced →
    ((l : ℕ) → flush_at noted l ≡ (if completes l (act f e) fenced && (flush_at flushes l == 0) then number else flush_at flushes l)) →
    IsGoneBack T n m fenced flushes → IsGoneBack T n i marked noted
gone-back T f es n m i number e fenced marked flushes noted format events next same within is trace marks notes x =
    let a : Act = act f e in
    let there : slice_get T.events i ≡ Some e = ap (λ xs. slice_get xs i) (sym events) ∙ is in
    let fits : IsThreadFit a = thread-fits f e.thread e.op (each-at T.format T.events i e trace.each there).event.thread in
    let is_act : IsAct T (suc i) a = (e, there, ap (λ g. act g e) (sym format)) in
    let upto : suc i ≤ n = omega arith in
    let fences : MarksFences T (suc i) n fenced = subst (λ k. MarksFences T k n fenced) next x.fences in
    record {
      size = ap (λ bs. length bs) marks ∙ size-back a fenced ∙ x.size;
      fences = subst (λ bs. MarksFences T i n bs) (sym marks) (fences-back T n i a fenced is_act fits upto x.size fences);
      lasts = λ l.
          let test = complete-test T l n i a fenced is_act fits upto fences in
          let new : flush_at noted l ≡ (if completes l a fenced && (flush_at flushes l == 0) then suc i else flush_at flushes l) =
          notes l ∙ ap (λ (k : ℕ). if completes l a fenced && (flush_at flushes l == 0) then k else flush_at flushes l) (same ∙ next) in
          subst (λ k. IsLastAfter T l n i k) (sym new) (last-back T l n i (flush_at flushes l) (completes l a fenced) test (subst (λ k. IsLastAfter T l n k (flush_at flushes l)) next (x.lasts l)));
    }

-- all events were met
pub gone-all : (T : Recording) (n : ℕ) (fenced : List Bool) (flushes : Numbers) → IsGoneBack T n 0 fenced flushes → (l : ℕ) → IsLastCompleted T l n (flush_at flushes l)
gone-all T n fenced flushes x l = elim (x.lasts l) [
  | inl found ↦ found
  | inr none ↦ record { reached = inl none.0; last = λ j done. absurd (none.1 j (some j done) done) }
]
  where
    some : (j : ℕ) → IsCompleted T l n j → 0 < j
    some j (AtOnce is by_now) = omega (arith, (act-within T j (Clflushes l) is).0)
    some j (Fenced t k flush fence later by_now) = omega (arith, (act-within T j (Flushes t l) flush).0)
