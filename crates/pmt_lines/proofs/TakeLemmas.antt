-- The jobs after the next event.
use Rattle.std.proofs.Common.{◌≡◌, ◌≢◌, ℕ, suc, ◌<◌, List, [], ◌∷◌, ◌++◌, length, get_or, set, refl, sym, ap, subst, ◌∙◌, arith}
use Rattle.std.proofs.lemmas.List.{length-set}
use Rattle.pmt_laws.specs.Prelude.{Event, Act, Flushes, Fences, Recording, act, IsAct, history, with_event, open_mark}
use Rattle.pmt_lines.specs.declared.step.StepKind.{StepKind}
use Rattle.pmt_lines.specs.declared.step.StepKind.TheVariants.{Store, Flush, Clflush, Fence}
use Rattle.pmt_lines.specs.declared.step.Step.{Step}
use Rattle.pmt_lines.specs.Jobs.{LineWork, last_number, IsKind, IsBy, IsSplitting, IsAccess, with_job, with_place, places_of, OpenEach, TakesOnLine, EndBefore, EndsAt}
use Rattle.pmt_taking.proofs.GrownLemmas.{event-new, act-new}
use Rattle.pmt_lines.proofs.GrowLemmas.{thread_job-stays, thread_job-takes, last-lean, last-thread}
use Rattle.pmt_taking.proofs.AppearLemmas.{IsOnLine}
use Rattle.pmt_lines.proofs.SplitLemmas.{prepared-placed, prepared-open, open-stays, open-flush, placed-flush, split-on_line}
use Rattle.pmt_lines.proofs.FenceActLemmas.{no_flush_or_fence, split-fence}

-- all steps so far come before the next event
pub end_before : (T : Recording) (keys : List ℕ) (lines : List LineWork) (opens : List (List ℕ)) (fences : List Step) (n : ℕ) → n ≡ suc (length T.events) → IsSplitting T keys lines opens fences → EndBefore n lines
end_before T keys lines opens fences n next so_far k d h = omega (arith, last-lean T (get_or lines k d) (so_far.job_each k d h))

pub fences_before : (T : Recording) (keys : List ℕ) (lines : List LineWork) (opens : List (List ℕ)) (fences : List Step) (n : ℕ) → n ≡ suc (length T.events) → IsSplitting T keys lines opens fences → last_number 0 fences < n
fences_before T keys lines opens fences n next so_far = omega (arith, last-thread T fences so_far.thread_job)

-- what an access is
access-line : (l : ℕ) (kind : StepKind) (a : Act) → IsAccess l kind a → IsOnLine l a
access-line l (Store addr len) a is = subst (IsOnLine l) (sym is.1) refl
access-line l Flush a is = absurd is
access-line l Clflush a is = subst (IsOnLine l) (sym is) refl
access-line l Fence a is = absurd is

access-marks : (l : ℕ) (kind : StepKind) (a : Act) → IsAccess l kind a → (h : List Act) (t m : ℕ) → open_mark t m (a ∷ h) ≡ open_mark t m h
access-marks l (Store addr len) a is h t m = ap (λ b. open_mark t m (b ∷ h)) is.1
access-marks l Flush a is h t m = absurd is
access-marks l Clflush a is h t m = ap (λ b. open_mark t m (b ∷ h)) is
access-marks l Fence a is h t m = absurd is

access-no_flush : (l : ℕ) (kind : StepKind) (a : Act) → IsAccess l kind a → (t m : ℕ) → a ≢ Flushes t m
access-no_flush l (Store addr len) a is t m e = let f = sym is.1 ∙ e in cc
access-no_flush l Flush a is t m e = absurd is
access-no_flush l Clflush a is t m e = let f = sym is ∙ e in cc
access-no_flush l Fence a is t m e = absurd is

access-no_fence : (l : ℕ) (kind : StepKind) (a : Act) → IsAccess l kind a → (t : ℕ) → a ≢ Fences t
access-no_fence l (Store addr len) a is t e = let f = sym is.1 ∙ e in cc
access-no_fence l Flush a is t e = absurd is
access-no_fence l Clflush a is t e = let f = sym is ∙ e in cc
access-no_fence l Fence a is t e = absurd is

access-kind : (T : Recording) (n l t : ℕ) (kind : StepKind) (a : Act) → IsAct T n a → IsAccess l kind a → IsKind T l n t kind
access-kind T n l t (Store addr len) a act is = (is.0, subst (IsAct T n) is.1 act, is.2, is.3)
access-kind T n l t Flush a act is = absurd is
access-kind T n l t Clflush a act is = subst (IsAct T n) is act
access-kind T n l t Fence a act is = absurd is

module _ (T : Recording) (e : Event) (keys : List ℕ) (lines : List LineWork) (opens : List (List ℕ)) (fences : List Step) (so_far : IsSplitting T keys lines opens fences) where
  by_thread : (n t : ℕ) → n ≡ suc (length T.events) → e.thread ≡ t → IsBy (with_event T e) n t
  by_thread n t next thread = subst (λ k. IsBy (with_event T e) k t) (sym next) (e, event-new T e, thread)

  at_number : (n : ℕ) → n ≡ suc (length T.events) → IsAct (with_event T e) n (act T.format e)
  at_number n next = subst (λ k. IsAct (with_event T e) k (act T.format e)) (sym next) (act-new T e)

  -- a store to a line, or a clflush of it
  pub access-taken : (l place : ℕ) (s : Step) (new_keys : List ℕ) (new : List LineWork) → TakesOnLine l s place keys new_keys lines new → s.number ≡ suc (length T.events) → e.thread ≡ s.thread → IsAccess l s.kind (act T.format e) → IsSplitting (with_event T e) new_keys new opens fences
  access-taken l place s new_keys new taken next thread is =
      split-on_line T e l place s keys new_keys lines new opens opens fences fences so_far taken (access-line l s.kind (act T.format e) is) next
      (record { kind = access-kind (with_event T e) s.number l s.thread s.kind (act T.format e) (at_number s.number next) is; by = by_thread s.number s.thread next thread })
      so_far.threads
      (open-stays (act T.format e) (history T (length T.events)) (with_job l keys lines) opens (access-marks l s.kind (act T.format e) is (history T (length T.events))) (prepared-open T l keys lines opens fences so_far))
      (prepared-placed T l keys lines opens fences so_far)
      (thread_job-stays T e fences (no_flush_or_fence (with_event T e) (suc (length T.events)) (act T.format e) (act-new T e) (access-no_flush l s.kind (act T.format e) is) (access-no_fence l s.kind (act T.format e) is)) so_far.thread_job)

  -- a flush of a line
  pub flush-taken : (l t n place : ℕ) (new_keys : List ℕ) (new : List LineWork) → TakesOnLine l (record { number = n; thread = t; kind = Flush }) place keys new_keys lines new → n ≡ suc (length T.events) → t < 256 → e.thread ≡ t → act T.format e ≡ Flushes t l →
      IsSplitting (with_event T e) new_keys new (with_place t place opens) (fences ++ record { number = n; thread = t; kind = Flush } ∷ [])
  flush-taken l t n place new_keys new taken next few thread is =
      split-on_line T e l place (record { number = n; thread = t; kind = Flush }) keys new_keys lines new opens (with_place t place opens) fences (fences ++ record { number = n; thread = t; kind = Flush } ∷ []) so_far taken
      (subst (IsOnLine l) (sym is) refl) next
      (record { kind = flush; by = by_thread n t next thread })
      (length-set opens t (places_of t opens ++ place ∷ []) ∙ so_far.threads)
      (subst (λ a. OpenEach (a ∷ history T (length T.events)) (with_job l keys lines) (with_place t place opens)) (sym is)
      (open-flush t l place (history T (length T.events)) (with_job l keys lines) opens so_far.threads few taken.within taken.here taken.apart (prepared-open T l keys lines opens fences so_far)))
      (placed-flush t l place (history T (length T.events)) (with_job l keys lines) opens so_far.threads few taken.within (prepared-placed T l keys lines opens fences so_far))
      (thread_job-takes T e fences (record { number = n; thread = t; kind = Flush }) next (l, flush) so_far.thread_job)
    where
      flush : IsAct (with_event T e) n (Flushes t l)
      flush = subst (IsAct (with_event T e) n) is (at_number n next)

  -- a fence
  pub fence-taken : (t n : ℕ) (new : List LineWork) → EndsAt (places_of t opens) (record { number = n; thread = t; kind = Fence }) lines new → n ≡ suc (length T.events) → t < 256 → e.thread ≡ t → act T.format e ≡ Fences t →
      IsSplitting (with_event T e) keys new (set opens t []) (fences ++ record { number = n; thread = t; kind = Fence } ∷ [])
  fence-taken t n new ends next few thread is =
      split-fence T e t (record { number = n; thread = t; kind = Fence }) keys lines new opens fences (fences ++ record { number = n; thread = t; kind = Fence } ∷ []) so_far ends is few next
      (λ l. record { kind = fence; by = by_thread n t next thread })
      (thread_job-takes T e fences (record { number = n; thread = t; kind = Fence }) next fence so_far.thread_job)
    where
      fence : IsAct (with_event T e) n (Fences t)
      fence = subst (IsAct (with_event T e) n) is (at_number n next)
