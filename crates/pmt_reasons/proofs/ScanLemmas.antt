-- The cause of a store, kept event by event, is its cause.
use Rattle.std.proofs.Common.{◌≡◌, ◌≢◌, ◌↔◌, ℕ, zero, suc, ◌<◌, ◌≤◌, ◌⊎◌, inl, inr, ◌==◌, Bool, true, false, List, [], ◌∷◌, length, Option, None, Some, refl, sym, ap, subst, subst₂, ◌∙◌, arith, get_or, set, get_or-set_same, get_or-set_other, eq-eqb, eqb-true}
use Rattle.std.specs.Prelude.{slice_get, MatchOption, if◌then◌else◌}
use Rattle.std.proofs.lemmas.Option.{none-some, same_Some}
use Rattle.std.proofs.Math.ListN.{length-set, replicate}
use Rattle.std.proofs.lemmas.List.{length-replicate, get_or-replicate}
use Rattle.std.proofs.lemmas.Bool.{cases_lt, cases_eq, false≢true}
use Rattle.std.proofs.lemmas.Bool.Decides.{nat_tests}
use Rattle.pmt_laws.specs.Prelude.{Event, Act, Flushes, Clflushes, Fences, Layout, Op, Recording, IsTrace, IsEventIn, IsAct, act_of, act, count_at, front_at, AllByRecursion}
use Rattle.pmt_laws.proofs.Histories.{act-unique, front-mono}
use Rattle.pmt_reasons.specs.declared.cause.Cause.{Cause}
use Rattle.pmt_reasons.specs.declared.cause.Cause.TheVariants.{Unflushed}
use Rattle.pmt_reasons.specs.Causes.{with_flush, with_fence, cause_after, flushed_after, IsCause}
use Rattle.pmt_reasons.proofs.CauseLemmas.{cause-start, safe-clflush, safe-fence, IsFlushedBy, cause-flush, cause-fence, cause-other}
use Rattle.pmt_reasons.proofs.CauseLaws.{no_flush_of, no_fence, cause-ended}

-- the marks tell which threads flush the line among the events after event i up to n
abbrev pub MarksFlushers : Recording → ℕ → ℕ → ℕ → List Bool → Type 0
MarksFlushers T l i n flushed = (t : ℕ) → t < 256 → (get_or flushed t false ≡ true) ↔ IsFlushedBy T l i n t

-- no flush of the line by any thread at the next event
marks-other : (T : Recording) (l i n : ℕ) (flushed : List Bool) → MarksFlushers T l i n flushed → ((t : ℕ) → ¬ IsAct T (suc n) (Flushes t l)) → MarksFlushers T l i (suc n) flushed
marks-other T l i n flushed marks none t small = (
  λ e. let x = (marks t small).0 e in (x.0, x.1, omega (arith, x.2), x.3),
  λ (j, after, by_now, is). elim (cases_lt j (suc n)) [
    | inl early ↦ (marks t small).1 (j, after, omega arith, is)
    | inr late ↦ let e : j ≡ suc n = omega arith in let P : ℕ → Type 0 = λ k. IsAct T k (Flushes t l) in absurd (none t (subst P e is))
  ],
)

-- a flush of the line at the next event
marks-flush : (T : Recording) (l i n u : ℕ) (flushed : List Bool) → MarksFlushers T l i n flushed → IsAct T (suc n) (Flushes u l) → i ≤ n → u < 256 → length flushed ≡ 256 →
    MarksFlushers T l i (suc n) (set flushed u true)
marks-flush T l i n u flushed marks flush within fits size t small = go (cases_eq t u)
  where
    go : (t ≡ u) ⊎ (t ≡ u → ⊥) → (get_or (set flushed u true) t false ≡ true) ↔ IsFlushedBy T l i (suc n) t
    go (inl same) =
        let inside : u < length flushed = omega arith in (
          λ e. (suc n, omega arith, omega arith, subst (λ v. IsAct T (suc n) (Flushes v l)) (sym same) flush),
          λ x. ap (λ k. get_or (set flushed u true) k false) same ∙ get_or-set_same flushed u true false inside,
        )
    go (inr apart) =
        let other : get_or (set flushed u true) t false ≡ get_or flushed t false = get_or-set_other flushed u t true false apart in (
          λ e. let x = (marks t small).0 (sym other ∙ e) in (x.0, x.1, omega (arith, x.2), x.3),
          λ (j, after, by_now, is). other ∙ elim (cases_lt j (suc n)) [
            | inl early ↦ (marks t small).1 (j, after, omega arith, is)
            | inr late ↦
                let e : j ≡ suc n = omega arith in
                let P : ℕ → Type 0 = λ k. IsAct T k (Flushes t l) in
                let same = act-unique T (suc n) (Flushes t l) (Flushes u l) (subst P e is) flush in
                absurd (apart (cc))
          ],
        )

-- what a cause and the marks say at a place
pub record IsScanned (T : Recording) (l i n : ℕ) (flushed : List Bool) (c : Cause) : Type 0 where
  pub size : length flushed ≡ 256
  pub marks : MarksFlushers T l i n flushed
  pub why : IsCause T l n i c

-- after one more event the store is safe, or the next cause and the next marks hold
abbrev pub IsScannedTo : Recording → ℕ → ℕ → ℕ → List Bool → Option Cause → Type 0
IsScannedTo T l i n flushed o = MatchOption o (count_at T l i ≤ front_at T l n) (IsScanned T l i n flushed)

-- an event that is no flush of the line and no fence
scan-other : (T : Recording) (l i n : ℕ) (a : Act) (flushed : List Bool) (c : Cause) → IsAct T (suc n) a → ((t : ℕ) → a ≢ Flushes t l) → a ≢ Clflushes l → ((t : ℕ) → a ≢ Fences t) → i ≤ n →
    IsScanned T l i n flushed c → IsScanned T l i (suc n) flushed c
scan-other T l i n a flushed c is flush clflush fence within s = grind (arith, nat_tests, marks-other, act-unique, cause-other, no_flush_of, no_fence)

-- a flush, of this line or another
scan-flush : (T : Recording) (l i n t k : ℕ) (flushed : List Bool) (c : Cause) → IsAct T (suc n) (Flushes t k) → t < 256 → i ≤ n → IsScanned T l i n flushed c →
    (b : Bool) → (k == l) ≡ b →
    IsScannedTo T l i (suc n) (if b then set flushed t true else flushed) (if b then Some (with_flush (suc n) t c) else Some c)
scan-flush T l i n t k flushed c is fits within s true same =
    let line : k ≡ l = eqb-true k l same in
    let flush : IsAct T (suc n) (Flushes t l) = subst (λ j. IsAct T (suc n) (Flushes t j)) line is in
    record {
      size = length-set flushed t true ∙ s.size;
      marks = marks-flush T l i n t flushed s.marks flush within fits s.size;
      why = cause-flush T l n i t c flush within s.why;
    }
scan-flush T l i n t k flushed c is fits within s false other =
    let apart : k ≢ l = λ e. false≢true (sym other ∙ eq-eqb k l e) in
    scan-other T l i n (Flushes t k) flushed c is (λ u e. apart (cc)) (λ e. cc) (λ u e. cc) within s

-- a clflush, of this line or another
scan-clflush : (T : Recording) (l i n k : ℕ) (flushed : List Bool) (c : Cause) → IsAct T (suc n) (Clflushes k) → i ≤ n → IsScanned T l i n flushed c →
    (b : Bool) → (k == l) ≡ b → IsScannedTo T l i (suc n) flushed (if b then None else Some c)
scan-clflush T l i n k flushed c is within s true same =
    let line : k ≡ l = eqb-true k l same in
    safe-clflush T l (suc n) i (suc n) (subst (λ j. IsAct T (suc n) (Clflushes j)) line is) (omega arith) (omega arith)
scan-clflush T l i n k flushed c is within s false other =
    let apart : k ≢ l = λ e. false≢true (sym other ∙ eq-eqb k l e) in
    scan-other T l i n (Clflushes k) flushed c is (λ u e. cc) (λ e. apart (cc)) (λ u e. cc) within s

-- a fence, of a thread that has flushed the line or another
scan-fence : (T : Recording) (l i n t : ℕ) (flushed : List Bool) (c : Cause) → IsAct T (suc n) (Fences t) → t < 256 → i ≤ n → IsScanned T l i n flushed c →
    (b : Bool) → get_or flushed t false ≡ b → IsScannedTo T l i (suc n) flushed (if b then None else Some (with_fence (suc n) c))
scan-fence T l i n t flushed c is fits within s true marked =
    let x = (s.marks t fits).0 marked in
    safe-fence T l (suc n) i t x.0 (suc n) x.3 is x.1 (omega (arith, x.2)) (omega arith)
scan-fence T l i n t flushed c is fits within s false unmarked = record {
  size = s.size;
  marks = marks-other T l i n flushed s.marks (λ u at. let same = act-unique T (suc n) (Fences t) (Flushes u l) is at in cc);
  why = cause-fence T l n i t c is within (λ x. false≢true (sym unmarked ∙ (s.marks t fits).1 x)) s.why;
}

-- the thread of an act, if it is a flush or fence
abbrev pub IsThreadFit : Act → Type 0
IsThreadFit (Flushes t l) = t < 256
IsThreadFit (Fences t) = t < 256
IsThreadFit a = Unit {0}

-- one more event of the trace
pub scan-act : (T : Recording) (l i n : ℕ) (a : Act) (flushed : List Bool) (c : Cause) → IsAct T (suc n) a → IsThreadFit a → i ≤ n → IsScanned T l i n flushed c →
    IsScannedTo T l i (suc n) (flushed_after l a flushed) (cause_after l (suc n) a flushed c)
scan-act T l i n (Flushes t k) flushed c is fits within s = scan-flush T l i n t k flushed c is fits within s (k == l) refl
scan-act T l i n (Clflushes k) flushed c is fits within s = scan-clflush T l i n k flushed c is within s (k == l) refl
scan-act T l i n (Fences t) flushed c is fits within s = scan-fence T l i n t flushed c is fits within s (get_or flushed t false) refl
scan-act T l i n a flushed c is fits within s = scan-other T l i n a flushed c is (λ t e. cc) (λ e. cc) (λ t e. cc) within s

-- a cause stays past the end of the trace
pub cause-past : (T : Recording) (l i n m : ℕ) (c : Cause) → length T.events ≤ n → i ≤ n → n ≤ m → IsCause T l n i c → IsCause T l m i c
cause-past T l i n zero c past within upto why = let e : n ≡ zero = omega arith in subst (λ k. IsCause T l k i c) e why
cause-past T l i n (suc m) c past within upto why = go (cases_lt n (suc m)) (λ less. cause-past T l i n m c past within less why)
  where
    go : (n < suc m) ⊎ (suc m ≤ n) → (n ≤ m → IsCause T l m i c) → IsCause T l (suc m) i c
    go (inl less) before = cause-ended T l m i c (omega arith) (omega arith) (before (omega arith))
    go (inr equal) before = let e : n ≡ suc m = omega arith in subst (λ k. IsCause T l k i c) e why

-- before the first event after the store
pub scan-start : (T : Recording) (l i : ℕ) (flushed : List Bool) → flushed ≡ replicate 256 false → IsScanned T l i i flushed Unflushed
scan-start T l i flushed start = record {
  size = ap (λ bs. length bs) start ∙ length-replicate 256 false;
  marks = λ t small. (
    λ e. absurd (false≢true (sym (ap (λ bs. get_or bs t false) start ∙ get_or-replicate 256 t false false small) ∙ e)),
    λ (j, after, by_now, is). absurd (omega arith),
  );
  why = cause-start T l i;
}

-- the thread of an event is below 256
pub thread-fits : (f : Layout) (t : ℕ) (op : Op) → t < 256 → IsThreadFit (act_of f t op)
thread-fits f t op h = grind (arith, nat_tests)

-- what holds of each event of a list holds of the one at an index
pub each-at : (f : Layout) (es : List Event) (n : ℕ) (e : Event) → AllByRecursion (IsEventIn f) es → slice_get es n ≡ Some e → IsEventIn f e
each-at f [] n e all is = absurd (none-some e is)
each-at f (x ∷ es) zero e all is = subst (IsEventIn f) (same_Some x e is) all.0
each-at f (x ∷ es) (suc n) e all is = each-at f es n e all.1 is

-- one more event of the trace, at an index of its list
pub scan-event : (T : Recording) (f : Layout) (es : List Event) (l i n m : ℕ) (e : Event) (flushed marked : List Bool) (c : Cause) (o : Option Cause) →
    f ≡ T.format → es ≡ T.events → m ≡ suc n → slice_get es n ≡ Some e → IsTrace T → i ≤ n →
    o ≡ cause_after l m (act f e) flushed c → marked ≡ flushed_after l (act f e) flushed → IsScanned T l i n flushed c → IsScannedTo T l i m marked o
scan-event T f es l i n m e flushed marked c o format events number is trace within next marks s =
    let there : slice_get T.events n ≡ Some e = ap (λ xs. slice_get xs n) (sym events) ∙ is in
    let fits : e.thread < 256 = (each-at T.format T.events n e trace.each there).event.thread in
    let is_act : IsAct T (suc n) (act f e) = (e, there, ap (λ g. act g e) (sym format)) in
    let same : o ≡ cause_after l (suc n) (act f e) flushed c = next ∙ ap (λ k. cause_after l k (act f e) flushed c) number in
    let P : ℕ → Type 0 = λ k. IsScannedTo T l i k marked o in
    subst P (sym number) (subst₂ (λ v p. IsScannedTo T l i (suc n) v p) (sym marks) (sym same) (scan-act T l i n (act f e) flushed c is_act (thread-fits f e.thread e.op fits) within s))

-- a store that is safe at a place of the scan is so later on
pub scanned-safe : (T : Recording) (l i n m : ℕ) → n ≤ m → count_at T l i ≤ front_at T l n → count_at T l i ≤ front_at T l m
scanned-safe T l i n m later safe = omega (arith, safe, front-mono T l n m later)

-- the scan has come to the place, or to the end of the trace before it
pub scanned-all : (T : Recording) (l i n place : ℕ) (c : Cause) → i ≤ n → n ≤ place → (n ≡ place) ⊎ (length T.events ≤ n) → IsCause T l n i c → IsCause T l place i c
scanned-all T l i n place c within upto (inl same) why = subst (λ k. IsCause T l k i c) same why
scanned-all T l i n place c within upto (inr past) why = cause-past T l i n place c past within upto why
