-- A trace with one event more: what was so of its events is so still, and the jobs go on.
use Rattle.std.proofs.Common.{◌≡◌, ℕ, suc, ◌-◌, ◌<◌, ◌≤◌, ◌⊎◌, inl, inr, List, [], ◌∷◌, ◌++◌, length, sym, ap, subst, ◌∙◌, arith}
use Rattle.std.proofs.lemmas.Bool.{cases_lt}
use Rattle.pmt_laws.specs.Prelude.{Event, Stores, Flushes, Clflushes, Fences, Recording, with_event, open_mark}
use Rattle.pmt_laws.proofs.Histories.{act-within}
use Rattle.pmt_taking.proofs.GrownLemmas.{event-old, history-old, act-from, act-to, act-past}
use Rattle.pmt_lines.specs.declared.step.StepKind.{StepKind}
use Rattle.pmt_lines.specs.declared.step.StepKind.TheVariants.{Store, Flush, Clflush, Fence}
use Rattle.pmt_lines.specs.declared.step.Step.{Step}
use Rattle.pmt_lines.specs.Jobs.{LineWork, last_number, with_step, IsKind, IsStepOf, Touches, ByStore, ByFlush, ByClflush, ByFence, IsWalkFrom, EachTouches, IsThreadKind, IsThreadStep, IsFlushOrFence, AFlush, AFence, IsThreadJobOf, IsLeanJob}
use Rattle.pmt_lines.proofs.RunLemmas.{kind-within}

-- steps of one walk are steps of another that goes on
walk-stays : (A B : Step → Type 0) (M N : ℕ → Type 0) (low : ℕ) (steps : List Step) → ((s : Step) → A s → B s) → ((k : ℕ) → N k → M k) → IsWalkFrom A M low steps → IsWalkFrom B N low steps
walk-stays A B M N low [] to from w = λ k h n. w k h (from k n)
walk-stays A B M N low (s ∷ steps) to from w = (w.0, to s w.1, λ k h j n. w.2 k h j (from k n), walk-stays A B M N s.number steps to from w.3)

-- and one more step is added where it is the last that matters
walk-takes : (A B : Step → Type 0) (M N : ℕ → Type 0) (low : ℕ) (steps : List Step) (x : Step) → ((s : Step) → A s → B s × (s.number < x.number)) → ((k : ℕ) → k < x.number → N k → M k) → ((k : ℕ) → x.number < k → ¬ N k) → low < x.number → B x → IsWalkFrom A M low steps → IsWalkFrom B N low (steps ++ x ∷ [])
walk-takes A B M N low [] x to from none h is w = (h, is, λ k a b n. w k a (from k b n), none)
walk-takes A B M N low (s ∷ steps) x to from none h is w =
    let here = to s w.1 in
    (w.0, here.0, λ k a b n. w.2 k a b (from k (omega (arith, here.1)) n), walk-takes A B M N s.number steps x to from none here.1 is w.3)

-- the last step of a walk is one of its steps, or the start
pub walk-last : (A : Step → Type 0) (M : ℕ → Type 0) (low n : ℕ) (steps : List Step) → ((s : Step) → A s → s.number ≤ n) → low ≤ n → IsWalkFrom A M low steps → last_number low steps ≤ n
walk-last A M low n [] within h w = h
walk-last A M low n (s ∷ steps) within h w = walk-last A M s.number n steps within (within s w.1) w.3

thread_kind-within : (T : Recording) (n t : ℕ) (kind : StepKind) → IsThreadKind T n t kind → n ≤ length T.events
thread_kind-within T n t (Store addr len) is = absurd is
thread_kind-within T n t Flush is = (act-within T n (Flushes t is.0) is.1).1
thread_kind-within T n t Clflush is = absurd is
thread_kind-within T n t Fence is = (act-within T n (Fences t) is).1

-- all steps are among the events
pub last-lean : (T : Recording) (job : LineWork) → IsLeanJob T job → last_number 0 job.steps ≤ length T.events
last-lean T job lean = walk-last (IsStepOf T job.line) (Touches T job.line) 0 (length T.events) job.steps (λ s is. (kind-within T job.line s.number s.thread s.kind is.kind).1) (omega arith) lean.0

pub last-thread : (T : Recording) (steps : List Step) → IsThreadJobOf T steps → last_number 0 steps ≤ length T.events
last-thread T steps job = walk-last (IsThreadStep T) (IsFlushOrFence T) 0 (length T.events) steps (λ s is. thread_kind-within T s.number s.thread s.kind is) (omega arith) job

module _ (T : Recording) (e : Event) where
  touches-from : (l k : ℕ) → k ≤ length T.events → Touches (with_event T e) l k → Touches T l k
  touches-from l k h (ByStore w is) = ByStore w (act-from T e k (Stores l w) h is)
  touches-from l k h (ByFlush t is) = ByFlush t (act-from T e k (Flushes t l) h is)
  touches-from l k h (ByClflush is) = ByClflush (act-from T e k (Clflushes l) h is)
  touches-from l k h (ByFence t is mark) = ByFence t (act-from T e k (Fences t) h is) (λ none. mark (ap (open_mark t l) (history-old T e (k - 1) (omega arith)) ∙ none))

  touches-to : (l k : ℕ) → Touches T l k → Touches (with_event T e) l k
  touches-to l k (ByStore w is) = ByStore w (act-to T e k (Stores l w) is)
  touches-to l k (ByFlush t is) = ByFlush t (act-to T e k (Flushes t l) is)
  touches-to l k (ByClflush is) = ByClflush (act-to T e k (Clflushes l) is)
  touches-to l k (ByFence t is mark) = ByFence t (act-to T e k (Fences t) is) (λ none. mark (sym (ap (open_mark t l) (history-old T e (k - 1) (omega (arith, (act-within T k (Fences t) is).1)))) ∙ none))

  touches-past : (l k : ℕ) → suc (length T.events) < k → ¬ Touches (with_event T e) l k
  touches-past l k h (ByStore w is) = act-past T e k (Stores l w) h is
  touches-past l k h (ByFlush t is) = act-past T e k (Flushes t l) h is
  touches-past l k h (ByClflush is) = act-past T e k (Clflushes l) h is
  touches-past l k h (ByFence t is mark) = act-past T e k (Fences t) h is

  kind-to : (l n t : ℕ) (kind : StepKind) → IsKind T l n t kind → IsKind (with_event T e) l n t kind
  kind-to l n t (Store addr len) is = (is.0, act-to T e n (Stores l is.0) is.1, is.2, is.3)
  kind-to l n t Flush is = act-to T e n (Flushes t l) is
  kind-to l n t Clflush is = act-to T e n (Clflushes l) is
  kind-to l n t Fence is = act-to T e n (Fences t) is

  step-to : (l : ℕ) (s : Step) → IsStepOf T l s → IsStepOf (with_event T e) l s
  step-to l s is =
      let within = kind-within T l s.number s.thread s.kind is.kind in
      record { kind = kind-to l s.number s.thread s.kind is.kind; by = (is.by.0, event-old T e s.number within.1 ∙ is.by.1, is.by.2) }

  each-to : (l : ℕ) (steps : List Step) → EachTouches T l steps → EachTouches (with_event T e) l steps
  each-to l [] each = tt
  each-to l (s ∷ steps) each = (touches-to l s.number each.0, each-to l steps each.1)

  each-push : (l : ℕ) (steps : List Step) (x : Step) → EachTouches (with_event T e) l steps → Touches (with_event T e) l x.number → EachTouches (with_event T e) l (steps ++ x ∷ [])
  each-push l [] x each here = (here, tt)
  each-push l (s ∷ steps) x each here = (each.0, each-push l steps x each.1 here)

  where_from : (l k : ℕ) → ¬ Touches (with_event T e) l (suc (length T.events)) → Touches (with_event T e) l k → Touches T l k
  where_from l k untouched is = go (cases_lt (length T.events) k)
    where
      go : (length T.events < k) ⊎ (k ≤ length T.events) → Touches T l k
      go (inr before) = touches-from l k before is
      go (inl after) = go_on (cases_lt (suc (length T.events)) k)
        where
          go_on : (suc (length T.events) < k) ⊎ (k ≤ suc (length T.events)) → Touches T l k
          go_on (inl past) = absurd (touches-past l k past is)
          go_on (inr last) = let same : k ≡ suc (length T.events) = omega arith in absurd (untouched (subst (Touches (with_event T e) l) same is))

  -- the job of a line that the new event doesn't matter to
  pub job-stays : (job : LineWork) → ¬ Touches (with_event T e) job.line (suc (length T.events)) → IsLeanJob T job → IsLeanJob (with_event T e) job
  job-stays job untouched lean = (
    walk-stays (IsStepOf T job.line) (IsStepOf (with_event T e) job.line) (Touches T job.line) (Touches (with_event T e) job.line) 0 job.steps (step-to job.line) (λ k. where_from job.line k untouched) lean.0,
    each-to job.line job.steps lean.1,
  )

  -- the job of a line that it matters to
  pub job-takes : (job : LineWork) (s : Step) → s.number ≡ suc (length T.events) → IsStepOf (with_event T e) job.line s → Touches (with_event T e) job.line s.number → IsLeanJob T job → IsLeanJob (with_event T e) (with_step job s)
  job-takes job s last is touches lean = (
    walk-takes (IsStepOf T job.line) (IsStepOf (with_event T e) job.line) (Touches T job.line) (Touches (with_event T e) job.line) 0 job.steps s
        (λ x one. (step-to job.line x one, omega (arith, (kind-within T job.line x.number x.thread x.kind one.kind).1)))
        (λ k h. touches-from job.line k (omega arith))
        (λ k h. touches-past job.line k (omega arith))
        (omega arith) is lean.0,
    each-push job.line job.steps s (each-to job.line job.steps lean.1) touches,
  )

  thread_kind-to : (n t : ℕ) (kind : StepKind) → IsThreadKind T n t kind → IsThreadKind (with_event T e) n t kind
  thread_kind-to n t (Store addr len) is = is
  thread_kind-to n t Flush is = (is.0, act-to T e n (Flushes t is.0) is.1)
  thread_kind-to n t Clflush is = is
  thread_kind-to n t Fence is = act-to T e n (Fences t) is

  flush_or_fence-from : (k : ℕ) → k ≤ length T.events → IsFlushOrFence (with_event T e) k → IsFlushOrFence T k
  flush_or_fence-from k h (AFlush t l is) = AFlush t l (act-from T e k (Flushes t l) h is)
  flush_or_fence-from k h (AFence t is) = AFence t (act-from T e k (Fences t) h is)

  flush_or_fence-past : (k : ℕ) → suc (length T.events) < k → ¬ IsFlushOrFence (with_event T e) k
  flush_or_fence-past k h (AFlush t l is) = act-past T e k (Flushes t l) h is
  flush_or_fence-past k h (AFence t is) = act-past T e k (Fences t) h is

  -- the job of the fences, where the new event is no flush and no fence
  pub thread_job-stays : (steps : List Step) → ¬ IsFlushOrFence (with_event T e) (suc (length T.events)) → IsThreadJobOf T steps → IsThreadJobOf (with_event T e) steps
  thread_job-stays steps none job =
      walk-stays (IsThreadStep T) (IsThreadStep (with_event T e)) (IsFlushOrFence T) (IsFlushOrFence (with_event T e)) 0 steps (λ s. thread_kind-to s.number s.thread s.kind) from job
    where
      from : (k : ℕ) → IsFlushOrFence (with_event T e) k → IsFlushOrFence T k
      from k is = go (cases_lt (length T.events) k)
        where
          go : (length T.events < k) ⊎ (k ≤ length T.events) → IsFlushOrFence T k
          go (inr before) = flush_or_fence-from k before is
          go (inl after) = go_on (cases_lt (suc (length T.events)) k)
            where
              go_on : (suc (length T.events) < k) ⊎ (k ≤ suc (length T.events)) → IsFlushOrFence T k
              go_on (inl past) = absurd (flush_or_fence-past k past is)
              go_on (inr last) = let same : k ≡ suc (length T.events) = omega arith in absurd (none (subst (IsFlushOrFence (with_event T e)) same is))

  -- and where it is one
  pub thread_job-takes : (steps : List Step) (s : Step) → s.number ≡ suc (length T.events) → IsThreadStep (with_event T e) s → IsThreadJobOf T steps → IsThreadJobOf (with_event T e) (steps ++ s ∷ [])
  thread_job-takes steps s last is job =
      walk-takes (IsThreadStep T) (IsThreadStep (with_event T e)) (IsFlushOrFence T) (IsFlushOrFence (with_event T e)) 0 steps s
      (λ x one. (thread_kind-to x.number x.thread x.kind one, omega (arith, thread_kind-within T x.number x.thread x.kind one)))
      (λ k h. flush_or_fence-from k (omega arith))
      (λ k h. flush_or_fence-past k (omega arith))
      (omega arith) is job
