-- The causes of all stores at the end of a trace, kept event by event from there back, are their causes.
use Rattle.std.proofs.Common.{◌≡◌, ◌≢◌, ◌↔◌, ℕ, suc, ◌+◌, ◌-◌, ◌<◌, ◌≤◌, ◌⊎◌, inl, inr, ◌==◌, Bool, true, false, List, length, Option, None, Some, refl, sym, ap, subst, ◌∙◌, arith, get_or, set, get_or-set_same, get_or-set_other, eq-eqb, eqb-true}
use Rattle.std.specs.Prelude.{slice_get, MatchOption, if◌then◌else◌}
use Rattle.std.proofs.Math.ListN.{length-set, replicate}
use Rattle.std.proofs.lemmas.List.{length-replicate, get_or-replicate}
use Rattle.std.proofs.lemmas.Bool.{cases_lt, cases_eq, false≢true}
use Rattle.std.proofs.lemmas.Option.{slice_get_within}
use Rattle.pmt_explain.specs.Prelude.{Event, Layout, Act, Stores, Flushes, Clflushes, Fences, Asserts, Recording, IsTrace, IsAct, act, count_at, front_at, IsFlushOf, ByFlush, ByClflush, Cause, Later, Unflushed, Unfenced, IsFirstFence, IsUnfenced, IsCause}
use Rattle.pmt_laws.proofs.Histories.{act-unique, count-mono}
use Rattle.pmt_reasons.proofs.CauseLemmas.{safe-clflush, safe-fence}
use Rattle.pmt_reasons.proofs.CauseLaws.{no_flush_of, no_fence}
use Rattle.pmt_reasons.proofs.ScanLemmas.{IsThreadFit, thread-fits, each-at}
use Rattle.pmt_explain.specs.CauseOf.{IsCauseOf, before_flush, cause_before, fence_before, cause_told}
use Rattle.pmt_explain.proofs.CauseOfLemmas.{cause-found}
use Rattle.pmt_explain.proofs.FollowingLemmas.{told-set}
use Rattle.pmt_explain.specs.Crashes.{fenced_before}

-- the cause at place n of a store to the line at place i, or none where it would be safe
abbrev pub IsCauseAfter : Recording → ℕ → ℕ → ℕ → Option Cause → Type 0
IsCauseAfter T l n i o = MatchOption o (count_at T l i ≤ front_at T l n) (IsCause T l n i)

-- the thread fences after place i, up to n
abbrev pub IsFencedAfter : Recording → ℕ → ℕ → ℕ → Type 0
IsFencedAfter T i n t = (k : ℕ) × (i < k) × (k ≤ n) × IsAct T k (Fences t)

-- what comes after place i, up to n
pub record IsAhead (T : Recording) (n i : ℕ) (fenced : List Bool) (fence : Option ℕ) (causes : ℕ → Option Cause) : Type 0 where
  pub size : length fenced ≡ 256
  pub threads : (t : ℕ) → t < 256 → (get_or fenced t false ≡ true) ↔ IsFencedAfter T i n t
  pub first : IsFirstFence T i n fence
  pub why : (l : ℕ) → IsCauseAfter T l n i (causes l)

-- what holds of each event after the next one, and of that one
from-back : (P : ℕ → Type 0) (i n : ℕ) → ((k : ℕ) → suc i < k → k ≤ n → P k) → P (suc i) → (k : ℕ) → i < k → k ≤ n → P k
from-back P i n after next k above within = go (cases_lt (suc i) k)
  where
    go : (suc i < k) ⊎ (k ≤ suc i) → P k
    go (inl later) = after k later within
    go (inr now) = let e : suc i ≡ k = omega arith in subst P e next

-- back over an event that is no flush of the line
unfenced-back : (T : Recording) (l n i flush thread : ℕ) (other : Option ℕ) → ¬ IsFlushOf T l (suc i) → IsUnfenced T l (suc i) n flush thread other → IsUnfenced T l i n flush thread other
unfenced-back T l n i flush thread other none x = record {
  is_flush = x.is_flush;
  after = omega (arith, x.after);
  by_now = x.by_now;
  first = λ k above below. from-back (λ j. j < flush → ¬ IsFlushOf T l j) i n (λ j later within less. x.first j later less) (λ less. none) k above (omega (arith, x.by_now)) below;
  no_clflush = from-back (λ k. ¬ IsAct T k (Clflushes l)) i n x.no_clflush (λ at. none (ByClflush at));
  unfenced = λ t j k above later within flushes fences.
      from-back (λ m. m < k → IsAct T m (Flushes t l) → ⊥) i n (λ m past by_now less at. x.unfenced t m k past less within at fences) (λ less at. none (ByFlush t at)) j above (omega arith) later flushes;
  first_fence = x.first_fence;
}

cause-back : (T : Recording) (l n i : ℕ) (o : Option Cause) → suc i ≤ n → ¬ IsFlushOf T l (suc i) → IsCauseAfter T l n (suc i) o → IsCauseAfter T l n i o
cause-back T l n i None within none safe = omega (arith, safe, count-mono T l i (suc i) (omega arith))
cause-back T l n i (Some Later) within none why = absurd (omega arith)
cause-back T l n i (Some Unflushed) within none why = (omega arith, from-back (λ k. ¬ IsFlushOf T l k) i n why.1 none)
cause-back T l n i (Some (Unfenced flush thread other)) within none why = (omega arith, unfenced-back T l n i flush thread other none why.1)

-- after a place of which the cause is known the line has no clflush, and no thread that flushes it fences
open-after : (T : Recording) (l n i : ℕ) (c : Cause) → i ≤ n → IsCause T l n i c →
    ((k : ℕ) → i < k → k ≤ n → ¬ IsAct T k (Clflushes l)) × ((t j k : ℕ) → i < j → j < k → k ≤ n → IsAct T j (Flushes t l) → ¬ IsAct T k (Fences t))
open-after T l n i Later within why = absurd (omega arith)
open-after T l n i Unflushed within why = (λ k above by_now at. why.1 k above by_now (ByClflush at), λ t j k above later by_now flush fence. why.1 j above (omega arith) (ByFlush t flush))
open-after T l n i (Unfenced flush thread other) within why = (why.1.no_clflush, why.1.unfenced)

-- back over a flush of the line
cause-flush : (T : Recording) (l n i t : ℕ) (fenced : List Bool) (fence : Option ℕ) (o : Option Cause) → suc i ≤ n → IsAct T (suc i) (Flushes t l) → t < 256 →
    ((get_or fenced t false ≡ true) ↔ IsFencedAfter T (suc i) n t) → IsFirstFence T (suc i) n fence → IsCauseAfter T l n (suc i) o →
    IsCauseAfter T l n i (before_flush (suc i) t fenced fence o)
cause-flush T l n i t fenced fence None within is fits marked first safe = omega (arith, safe, count-mono T l i (suc i) (omega arith))
cause-flush T l n i t fenced fence (Some c) within is fits marked first why = go (get_or fenced t false) refl
  where
    go : (b : Bool) → get_or fenced t false ≡ b → IsCauseAfter T l n i (if b then None else Some (Unfenced (suc i) t fence))
    go true e = let x = marked.0 e in safe-fence T l n i t (suc i) x.0 is x.3 (omega arith) (omega (arith, x.1)) x.2
    go false e =
        let rest = open-after T l n (suc i) c within why in (
          omega arith,
          record {
            is_flush = is;
            after = omega arith;
            by_now = within;
            first = λ k above below. absurd (omega arith);
            no_clflush = from-back (λ k. ¬ IsAct T k (Clflushes l)) i n rest.0 (λ at. let same = act-unique T (suc i) (Flushes t l) (Clflushes l) is at in cc);
            unfenced = λ u j k above later by_now flush fences.
                from-back (λ m. m < k → IsAct T m (Flushes u l) → ⊥) i n (λ m past upto less at. rest.1 u m k past less by_now at fences)
                (λ less at.
                let same = act-unique T (suc i) (Flushes t l) (Flushes u l) is at in
                let thread : u ≡ t = cc in
                false≢true (sym e ∙ marked.1 (k, less, by_now, subst (λ v. IsAct T k (Fences v)) thread fences)))
                j above (omega arith) later flush;
            first_fence = first;
          },
        )

-- back over an event that is no fence
threads-other : (T : Recording) (n i : ℕ) (fenced : List Bool) → ((t : ℕ) → ¬ IsAct T (suc i) (Fences t)) → ((t : ℕ) → t < 256 → (get_or fenced t false ≡ true) ↔ IsFencedAfter T (suc i) n t) →
    (t : ℕ) → t < 256 → (get_or fenced t false ≡ true) ↔ IsFencedAfter T i n t
threads-other T n i fenced none marked t fits = (
  λ e. let x = (marked t fits).0 e in (x.0, omega (arith, x.1), x.2, x.3),
  λ (k, above, within, at). from-back (λ j. IsAct T j (Fences t) → get_or fenced t false ≡ true) i n (λ j later by_now fence. (marked t fits).1 (j, later, by_now, fence)) (λ fence. absurd (none t fence)) k above within at,
)

first-other : (T : Recording) (n i : ℕ) (fence : Option ℕ) → ((t : ℕ) → ¬ IsAct T (suc i) (Fences t)) → IsFirstFence T (suc i) n fence → IsFirstFence T i n fence
first-other T n i None none first = λ k t above within. from-back (λ j. ¬ IsAct T j (Fences t)) i n (λ j later by_now. first j t later by_now) (none t) k above within
first-other T n i (Some j) none first = record {
  thread = first.thread;
  is_fence = first.is_fence;
  after = omega (arith, first.after);
  by_now = first.by_now;
  none_before = λ k t above less. from-back (λ m. m < j → ¬ IsAct T m (Fences t)) i n (λ m later within below. first.none_before m t later below) (λ below. none t) k above (omega (arith, first.by_now)) less;
}

-- back over a fence
threads-fence : (T : Recording) (n i u : ℕ) (fenced : List Bool) → IsAct T (suc i) (Fences u) → suc i ≤ n → u < 256 → length fenced ≡ 256 →
    ((t : ℕ) → t < 256 → (get_or fenced t false ≡ true) ↔ IsFencedAfter T (suc i) n t) → (t : ℕ) → t < 256 → (get_or (set fenced u true) t false ≡ true) ↔ IsFencedAfter T i n t
threads-fence T n i u fenced is within small size marked t fits = go (cases_eq t u)
  where
    go : (t ≡ u) ⊎ (t ≡ u → ⊥) → (get_or (set fenced u true) t false ≡ true) ↔ IsFencedAfter T i n t
    go (inl same) =
        let inside : u < length fenced = omega arith in (
          λ e. (suc i, omega arith, within, subst (λ v. IsAct T (suc i) (Fences v)) (sym same) is),
          λ x. ap (λ k. get_or (set fenced u true) k false) same ∙ get_or-set_same fenced u true false inside,
        )
    go (inr apart) =
        let other : get_or (set fenced u true) t false ≡ get_or fenced t false = get_or-set_other fenced u t true false apart in (
          λ e. let x = (marked t fits).0 (sym other ∙ e) in (x.0, omega (arith, x.1), x.2, x.3),
          λ (k, above, by_now, at).
              other ∙ from-back (λ j. IsAct T j (Fences t) → get_or fenced t false ≡ true) i n (λ j later upto fence. (marked t fits).1 (j, later, upto, fence))
              (λ fence. let same = act-unique T (suc i) (Fences u) (Fences t) is fence in absurd (apart (cc))) k above by_now at,
        )

-- back over an event that is no flush and no fence
ahead-other : (T : Recording) (n i : ℕ) (a : Act) (fenced : List Bool) (fence : Option ℕ) (causes : ℕ → Option Cause) → IsAct T (suc i) a → suc i ≤ n →
    ((t l : ℕ) → a ≢ Flushes t l) → ((l : ℕ) → a ≢ Clflushes l) → ((t : ℕ) → a ≢ Fences t) → IsAhead T n (suc i) fenced fence causes → IsAhead T n i fenced fence causes
ahead-other T n i a fenced fence causes is within flush clflush apart s = record {
  size = s.size;
  threads = threads-other T n i fenced (no_fence T (suc i) a is apart) s.threads;
  first = first-other T n i fence (no_fence T (suc i) a is apart) s.first;
  why = λ l. cause-back T l n i (causes l) within (no_flush_of T l (suc i) a is (λ t. flush t l) (clflush l)) (s.why l);
}

-- back over an event
pub ahead-act : (T : Recording) (n i : ℕ) (a : Act) (fenced : List Bool) (fence : Option ℕ) (causes : ℕ → Option Cause) → IsAct T (suc i) a → IsThreadFit a → suc i ≤ n →
    IsAhead T n (suc i) fenced fence causes → IsAhead T n i (fenced_before a fenced) (fence_before a (suc i) fence) (cause_before a (suc i) fenced fence causes)
ahead-act T n i (Stores k w) fenced fence causes is fits within s = ahead-other T n i (Stores k w) fenced fence causes is within (λ t l e. cc) (λ l e. cc) (λ t e. cc) s
ahead-act T n i (Flushes t k) fenced fence causes is fits within s = record {
  size = s.size;
  threads = threads-other T n i fenced (no_fence T (suc i) (Flushes t k) is (λ u e. cc)) s.threads;
  first = first-other T n i fence (no_fence T (suc i) (Flushes t k) is (λ u e. cc)) s.first;
  why = λ l. go l (k == l) refl;
}
  where
    go : (l : ℕ) (b : Bool) → (k == l) ≡ b → IsCauseAfter T l n i (if b then before_flush (suc i) t fenced fence (causes k) else causes l)
    go l true same =
        let line : k ≡ l = eqb-true k l same in
        subst (λ j. IsCauseAfter T j n i (before_flush (suc i) t fenced fence (causes k))) line (cause-flush T k n i t fenced fence (causes k) within is fits (s.threads t fits) s.first (s.why k))
    go l false other =
        let apart : k ≢ l = λ e. false≢true (sym other ∙ eq-eqb k l e) in
        cause-back T l n i (causes l) within (no_flush_of T l (suc i) (Flushes t k) is (λ u e. apart (cc)) (λ e. cc)) (s.why l)
ahead-act T n i (Clflushes k) fenced fence causes is fits within s = record {
  size = s.size;
  threads = threads-other T n i fenced (no_fence T (suc i) (Clflushes k) is (λ u e. cc)) s.threads;
  first = first-other T n i fence (no_fence T (suc i) (Clflushes k) is (λ u e. cc)) s.first;
  why = λ l. go l (k == l) refl;
}
  where
    go : (l : ℕ) (b : Bool) → (k == l) ≡ b → IsCauseAfter T l n i (if b then None else causes l)
    go l true same =
        let line : k ≡ l = eqb-true k l same in
        safe-clflush T l n i (suc i) (subst (λ j. IsAct T (suc i) (Clflushes j)) line is) (omega arith) within
    go l false other =
        let apart : k ≢ l = λ e. false≢true (sym other ∙ eq-eqb k l e) in
        cause-back T l n i (causes l) within (no_flush_of T l (suc i) (Clflushes k) is (λ u e. cc) (λ e. apart (cc))) (s.why l)
ahead-act T n i (Fences t) fenced fence causes is fits within s = record {
  size = length-set fenced t true ∙ s.size;
  threads = threads-fence T n i t fenced is within fits s.size s.threads;
  first = record { thread = t; is_fence = is; after = omega arith; by_now = within; none_before = λ k u above less. absurd (omega arith) };
  why = λ l. cause-back T l n i (causes l) within (no_flush_of T l (suc i) (Fences t) is (λ u e. cc) (λ e. cc)) (s.why l);
}
ahead-act T n i Asserts fenced fence causes is fits within s = ahead-other T n i Asserts fenced fence causes is within (λ t l e. cc) (λ l e. cc) (λ t e. cc) s

-- before the end nothing is known to come
pub ahead-end : (T : Recording) (n : ℕ) (fenced : List Bool) (causes : ℕ → Option Cause) → fenced ≡ replicate 256 false → ((l : ℕ) → causes l ≡ Some Unflushed) → IsAhead T n n fenced None causes
ahead-end T n fenced causes start none = record {
  size = ap (λ bs. length bs) start ∙ length-replicate 256 false;
  threads = λ t small. (
    λ e. absurd (false≢true (sym (ap (λ bs. get_or bs t false) start ∙ get_or-replicate 256 t false false small) ∙ e)),
    λ (k, above, within, at). absurd (omega arith),
  );
  first = λ k t above within. absurd (omega arith);
  why = λ l. subst (IsCauseAfter T l n n) (sym (none l)) (omega arith, λ k above within. absurd (omega arith));
}

-- the event's cause is the one that is told of it
told-cause : (T : Recording) (n i : ℕ) (a : Act) (causes : ℕ → Option Cause) → IsAct T i a → ((l : ℕ) → IsCauseAfter T l n i (causes l)) → IsCauseOf T n i (cause_told a causes)
told-cause T n i (Stores k w) causes is why = cause-found T n i k w (causes k) is (why k)
told-cause T n i (Flushes t k) causes is why = λ l w at. let same = act-unique T i (Flushes t k) (Stores l w) is at in cc
told-cause T n i (Clflushes k) causes is why = λ l w at. let same = act-unique T i (Clflushes k) (Stores l w) is at in cc
told-cause T n i (Fences t) causes is why = λ l w at. let same = act-unique T i (Fences t) (Stores l w) is at in cc
told-cause T n i Asserts causes is why = λ l w at. let same = act-unique T i Asserts (Stores l w) is at in cc

-- what comes after place i, and the causes of the events after it
pub record IsBack (T : Recording) (start i : ℕ) (fenced : List Bool) (fence : Option ℕ) (causes : ℕ → Option Cause) (told : List (Option Cause)) : Type 0 where
  pub ahead : IsAhead T (length T.events) i fenced fence causes
  pub size : length told + start ≡ length T.events
  pub each : (k : ℕ) (o : Option Cause) → i ≤ k + start → slice_get told k ≡ Some o → IsCauseOf T (length T.events) (suc k + start) o

pub back-end : (T : Recording) (start n : ℕ) (fenced : List Bool) (fence : Option ℕ) (causes : ℕ → Option Cause) (told : List (Option Cause)) → n ≡ length T.events → fenced ≡ replicate 256 false → fence ≡ None →
    ((l : ℕ) → causes l ≡ Some Unflushed) → length told + start ≡ n → IsBack T start n fenced fence causes told
back-end T from n fenced fence causes told end start none unflushed size = subst (λ m. IsBack T from m fenced fence causes told) (sym end) (record {
  ahead = subst (λ o. IsAhead T (length T.events) (length T.events) fenced o causes) (sym none) (ahead-end T (length T.events) fenced causes start unflushed);
  size = size ∙ end;
  each = λ k o past at. let within = slice_get_within told k o at in absurd (omega (arith, size, end));
})

-- back over one more event
pub back-event : (T : Recording) (f : Layout) (es : List Event) (start i j number : ℕ) (e : Event) (fenced marked : List Bool) (fence first : Option ℕ) (causes before : ℕ → Option Cause)
    (told : List (Option Cause)) (o : Option Cause) → f ≡ T.format → es ≡ T.events → start ≤ j → i ≡ suc j → number ≡ suc j → slice_get es j ≡ Some e → IsTrace T →
    marked ≡ fenced_before (act f e) fenced → first ≡ fence_before (act f e) number fence → ((l : ℕ) → before l ≡ cause_before (act f e) number fenced fence causes l) →
    o ≡ cause_told (act f e) causes → IsBack T start i fenced fence causes told → IsBack T start j marked first before (set told (j - start) o)
back-event T f es start i j number e fenced marked fence first causes before told o format events below place numbered at trace marks fences lines tells s = record {
  ahead = record {
    size = ap (λ bs. length bs) marks ∙ next.size;
    threads = subst (λ bs. (t : ℕ) → t < 256 → (get_or bs t false ≡ true) ↔ IsFencedAfter T j n t) (sym marks) next.threads;
    first = subst (IsFirstFence T j n) (sym (fences ∙ ap (λ m. fence_before a m fence) numbered)) next.first;
    why = λ l. subst (IsCauseAfter T l n j) (sym (lines l ∙ ap (λ m. cause_before a m fenced fence causes l) numbered)) (next.why l);
  };
  size = omega (arith, length-set told (j - start) o, s.size);
  each = λ k p past here.
      let number : suc (j - start) + start ≡ suc j = omega arith in
      told-set (λ m q. IsCauseOf T n (m + start) q) told (j - start) k o p (omega (arith, s.size, within))
      (subst (λ m. IsCauseOf T n m o) (sym number) (subst (IsCauseOf T n (suc j)) (sym tells) (told-cause T n (suc j) a causes is now.why))) (λ m q later there. s.each m q (omega arith) there) (omega arith)
      here;
}
  where
    n : ℕ
    n = length T.events

    a : Act
    a = act f e

    there : slice_get T.events j ≡ Some e
    there = ap (λ xs. slice_get xs j) (sym events) ∙ at

    within : j < n
    within = slice_get_within T.events j e there

    is : IsAct T (suc j) a
    is = (e, there, ap (λ g. act g e) (sym format))

    now : IsAhead T n (suc j) fenced fence causes
    now = subst (λ m. IsAhead T n m fenced fence causes) place s.ahead

    next : IsAhead T n j (fenced_before a fenced) (fence_before a (suc j) fence) (cause_before a (suc j) fenced fence causes)
    next = ahead-act T n j a fenced fence causes is (thread-fits f e.thread e.op (each-at T.format T.events j e trace.each there).event.thread) (omega (arith, within)) now
