-- The jobs after a fence, after an assertion, at the start and at the end.
use Rattle.std.proofs.Common.{◌≡◌, ◌≢◌, ℕ, suc, ◌-◌, ◌<◌, ◌⊎◌, inl, inr, Bool, true, false, List, [], ◌∷◌, length, get_or, set, map, Option, Some, None, refl, sym, ap, subst, ◌∙◌, arith}
use Rattle.std.specs.Prelude.{◌↔◌, if◌then◌else◌, All}
use Rattle.std.proofs.lemmas.Bool.{cases_eq, eq-eqb, ne_eqb, both_ways}
use Rattle.std.proofs.lemmas.List.{get_or-set_same, get_or-set_other, length-set, same_lists, get_or-map, length-map}
use Rattle.std.proofs.lemmas.List.Elements.{recursion_from_All}
use Rattle.pmt_laws.specs.Prelude.{Event, Act, Flushes, Fences, Asserts, Recording, act, IsAct, history, has_line, lines_of, with_event, open_mark}
use Rattle.pmt_laws.proofs.Histories.{act-unique}
use Rattle.pmt_lines.specs.declared.step.Step.{Step}
use Rattle.pmt_lines.specs.Jobs.{LineWork, with_step, IsStepOf, Touches, ByFence, IsFlushOrFence, AFlush, AFence, IsThreadJobOf, IsLeanJob, line_in, places_of, OpenEach, ArePlaces, IsSplitting, IsSplit, EndsAt}
use Rattle.pmt_taking.proofs.GrownLemmas.{length-grown, history-old, history-new, act-new}
use Rattle.pmt_lines.proofs.GrowLemmas.{job-stays, job-takes, thread_job-stays}
use Rattle.pmt_lines.proofs.LineActLemmas.{untouched-assert, untouched-fence}

-- a fence of a thread without a mark leaves the line; one of another thread leaves the mark
mark-own_fence : (t m : ℕ) (h : List Act) → open_mark t m (Fences t ∷ h) ≡ None
mark-own_fence t m h = rw (eq-eqb t t refl) refl

mark-other_fence : (t u m : ℕ) (h : List Act) → u ≢ t → open_mark u m (Fences t ∷ h) ≡ open_mark u m h
mark-other_fence t u m h other = rw (ne_eqb t u (λ e. other (sym e))) refl

some-or-none : (o : Option ℕ) → (o ≡ None) ⊎ (o ≢ None)
some-or-none None = inl refl
some-or-none (Some n) = inr (λ e. cc)

-- the places after a fence
module _ (t : ℕ) (h : List Act) (lines : List LineWork) (opens : List (List ℕ)) (threads : length opens ≡ 256) (thread : t < 256) where
  places-cleared : places_of t (set opens t []) ≡ []
  places-cleared = get_or-set_same opens t [] [] (omega (arith, threads))

  places-kept : (u : ℕ) → u ≢ t → places_of u (set opens t []) ≡ places_of u opens
  places-kept u other = get_or-set_other opens t u [] [] other

  placed-fence : ArePlaces lines opens → ArePlaces lines (set opens t [])
  placed-fence placed u = go (cases_eq u t)
    where
      go : (u ≡ t) ⊎ (u ≡ t → ⊥) → All (λ p. p < length lines) (places_of u (set opens t []))
      go (inl same) = subst (λ ps. All (λ p. p < length lines) ps) (sym (ap (λ v. places_of v (set opens t [])) same ∙ places-cleared)) (λ k d h. absurd (omega arith))
      go (inr other) = subst (λ ps. All (λ p. p < length lines) ps) (sym (places-kept u other)) (placed u)

  open-fence : OpenEach h lines opens → OpenEach (Fences t ∷ h) lines (set opens t [])
  open-fence each u k d in_range = go (cases_eq u t)
    where
      go : (u ≡ t) ⊎ (u ≡ t → ⊥) → (has_line k (places_of u (set opens t [])) ≡ true) ↔ (open_mark u (get_or lines k d).line (Fences t ∷ h) ≢ None)
      go (inl same) =
          let lacking : has_line k (places_of u (set opens t [])) ≡ false = ap (λ v. has_line k (places_of v (set opens t []))) same ∙ ap (has_line k) places-cleared in
          let none : open_mark u (get_or lines k d).line (Fences t ∷ h) ≡ None = ap (λ v. open_mark v (get_or lines k d).line (Fences t ∷ h)) same ∙ mark-own_fence t (get_or lines k d).line h in
          (λ has. absurd (both_ways (has_line k (places_of u (set opens t []))) lacking has), λ mark. absurd (mark none))
      go (inr other) = rw (places-kept u other, mark-other_fence t u (get_or lines k d).line h other) (each u k d in_range)

-- the jobs after a fence: each job whose interval it ends has it as a step
module _ (T : Recording) (e : Event) (t : ℕ) (s : Step) (keys : List ℕ) (lines new : List LineWork) (opens : List (List ℕ)) (fences new_fences : List Step) where
  pub split-fence : IsSplitting T keys lines opens fences → EndsAt (places_of t opens) s lines new → act T.format e ≡ Fences t → t < 256 → s.number ≡ suc (length T.events) → ((l : ℕ) → IsStepOf (with_event T e) l s) → IsThreadJobOf (with_event T e) new_fences →
      IsSplitting (with_event T e) keys new (set opens t []) new_fences
  split-fence so_far ends fence thread last is thread_job =
      record {
        known = so_far.known ∙ sym (ap lines_of grown);
        line_each = lines_then;
        job_each = λ k d h. subst (IsLeanJob (with_event T e)) (sym (ends.each k d (subst (λ n. k < n) ends.same_length h))) (job k d (subst (λ n. k < n) ends.same_length h) (has_line k (places_of t opens)) refl);
        threads = length-set opens t [] ∙ so_far.threads;
        open_each = λ u k d h. subst (λ hs. (has_line k (places_of u (set opens t [])) ≡ true) ↔ (open_mark u (get_or new k d).line hs ≢ None)) (sym grown) (subst (λ m. (has_line k (places_of u (set opens t [])) ≡ true) ↔ (open_mark u m (Fences t ∷ history T (length T.events)) ≢ None)) (sym (line_at k d (subst (λ n. k < n) ends.same_length h))) (open-fence t (history T (length T.events)) lines opens so_far.threads thread so_far.open_each u k d (subst (λ n. k < n) ends.same_length h)));
        placed = λ u k d h. subst (λ n. get_or (places_of u (set opens t [])) k d < n) (sym ends.same_length) (placed-fence t (history T (length T.events)) lines opens so_far.threads thread so_far.placed u k d h);
        thread_job = thread_job;
      }
    where
      grown : history (with_event T e) (length (with_event T e).events) ≡ Fences t ∷ history T (length T.events)
      grown = ap (history (with_event T e)) (length-grown T e) ∙ history-new T e ∙ ap (λ a. a ∷ history T (length T.events)) fence

      line_of_choice : (b : Bool) (j : LineWork) → line_in (if b then with_step j s else j) ≡ j.line
      line_of_choice true j = refl
      line_of_choice false j = refl

      line_at : (k : ℕ) (d : LineWork) → k < length lines → (get_or new k d).line ≡ (get_or lines k d).line
      line_at k d h = ap line_in (ends.each k d h) ∙ line_of_choice (has_line k (places_of t opens)) (get_or lines k d)

      lines_then : map line_in new ≡ keys
      lines_then =
          same_lists (map line_in new) (map line_in lines) (length-map new line_in ∙ ends.same_length ∙ sym (length-map lines line_in))
          (λ k d h. each k d (subst (λ n. k < n) (length-map new line_in ∙ ends.same_length) h))
          ∙ so_far.line_each
        where
          each : (k d : ℕ) → k < length lines → get_or (map line_in new) k d ≡ get_or (map line_in lines) k d
          each k d h =
              get_or-map line_in new k (record { line = 0; steps = [] }) d (subst (λ n. k < n) (sym ends.same_length) h)
              ∙ line_at k (record { line = 0; steps = [] }) h
              ∙ sym (get_or-map line_in lines k (record { line = 0; steps = [] }) d h)

      is_act : IsAct (with_event T e) (suc (length T.events)) (Fences t)
      is_act = subst (IsAct (with_event T e) (suc (length T.events))) fence (act-new T e)

      before : (m : ℕ) → open_mark t m (history (with_event T e) (suc (length T.events) - 1)) ≡ open_mark t m (history T (length T.events))
      before m = let one_less : suc (length T.events) - 1 ≡ length T.events = omega arith in ap (λ k. open_mark t m (history (with_event T e) k)) one_less ∙ ap (open_mark t m) (history-old T e (length T.events) (omega arith))

      job : (k : ℕ) (d : LineWork) → k < length lines → (b : Bool) → has_line k (places_of t opens) ≡ b → IsLeanJob (with_event T e) (if b then with_step (get_or lines k d) s else get_or lines k d)
      job k d h true has =
          let mark = (so_far.open_each t k d h).0 has in
          let touches = ByFence t is_act (λ none. mark (sym (before (get_or lines k d).line) ∙ none)) in
          job-takes T e (get_or lines k d) s last (is (get_or lines k d).line) (subst (Touches (with_event T e) (get_or lines k d).line) (sym last) touches) (so_far.job_each k d h)
      job k d h false lacking = job-stays T e (get_or lines k d) (untouched-fence (with_event T e) (suc (length T.events)) (get_or lines k d).line t is_act (before (get_or lines k d).line ∙ none (some-or-none (open_mark t (get_or lines k d).line (history T (length T.events)))))) (so_far.job_each k d h)
        where
          none : (open_mark t (get_or lines k d).line (history T (length T.events)) ≡ None) ⊎ (open_mark t (get_or lines k d).line (history T (length T.events)) ≢ None) → open_mark t (get_or lines k d).line (history T (length T.events)) ≡ None
          none (inl e) = e
          none (inr mark) = absurd (both_ways (has_line k (places_of t opens)) lacking ((so_far.open_each t k d h).1 mark))

-- an act of another kind is no flush and no fence
pub no_flush_or_fence : (T : Recording) (n : ℕ) (a : Act) → IsAct T n a → ((t l : ℕ) → a ≢ Flushes t l) → ((t : ℕ) → a ≢ Fences t) → ¬ IsFlushOrFence T n
no_flush_or_fence T n a is no_flush no_fence (AFlush t l flush) = no_flush t l (act-unique T n a (Flushes t l) is flush)
no_flush_or_fence T n a is no_flush no_fence (AFence t fence) = no_fence t (act-unique T n a (Fences t) is fence)

-- the jobs after an assertion are the same
module _ (T : Recording) (e : Event) (keys : List ℕ) (lines : List LineWork) (opens : List (List ℕ)) (fences : List Step) where
  pub split-assert : IsSplitting T keys lines opens fences → act T.format e ≡ Asserts → IsSplitting (with_event T e) keys lines opens fences
  split-assert so_far assert =
      record {
        known = so_far.known ∙ sym (ap lines_of grown);
        line_each = so_far.line_each;
        job_each = λ k d h. job-stays T e (get_or lines k d) (untouched-assert (with_event T e) (suc (length T.events)) (get_or lines k d).line is_act) (so_far.job_each k d h);
        threads = so_far.threads;
        open_each = subst (λ hs. OpenEach hs lines opens) (sym grown) so_far.open_each;
        placed = so_far.placed;
        thread_job = thread_job-stays T e fences none so_far.thread_job;
      }
    where
      grown : history (with_event T e) (length (with_event T e).events) ≡ Asserts ∷ history T (length T.events)
      grown = ap (history (with_event T e)) (length-grown T e) ∙ history-new T e ∙ ap (λ a. a ∷ history T (length T.events)) assert

      is_act : IsAct (with_event T e) (suc (length T.events)) Asserts
      is_act = subst (IsAct (with_event T e) (suc (length T.events))) assert (act-new T e)

      none : ¬ IsFlushOrFence (with_event T e) (suc (length T.events))
      none = no_flush_or_fence (with_event T e) (suc (length T.events)) Asserts is_act (λ t l e. cc) (λ t e. cc)

-- after the last event the trace is taken apart
pub split-end : (T : Recording) (keys : List ℕ) (lines : List LineWork) (opens : List (List ℕ)) (fences : List Step) → IsSplitting T keys lines opens fences → IsSplit T lines fences
split-end T keys lines opens fences so_far =
    record { covering = so_far.line_each ∙ so_far.known; jobs = recursion_from_All (IsLeanJob T) lines so_far.job_each; thread_job = so_far.thread_job }
