-- The jobs of the lines while events come.
use Rattle.std.proofs.Common.{◌≡◌, ◌≢◌, ℕ, suc, ◌<◌, ◌≤◌, ◌⊎◌, inl, inr, Bool, true, false, List, [], ◌∷◌, ◌++◌, length, get_or, set, map, Some, None, refl, sym, ap, subst, ◌∙◌, arith}
use Rattle.std.specs.Prelude.{◌==◌, ◌&&◌, ◌↔◌, if◌then◌else◌, All}
use Rattle.std.proofs.lemmas.Bool.{cases_lt, cases_eq, eq-eqb, ne_eqb, both_ways}
use Rattle.std.proofs.lemmas.List.{get_or-set_same, get_or-set_other, length-set, get_or_append_left, get_or_at, length-append, same_lists, get_or-map, length-map}
use Rattle.std.proofs.lemmas.List.Elements.{All-push}
use Rattle.pmt_laws.specs.Prelude.{Event, Act, Flushes, count, Recording, act, IsAct, history, has_line, with_line, lines_of, with_event, open_mark}
use Rattle.pmt_lines.specs.declared.step.Step.{Step}
use Rattle.pmt_lines.specs.Jobs.{LineWork, with_step, IsStepOf, Touches, IsThreadJobOf, IsLeanJob, line_in, places_of, with_place, OpenEach, ArePlaces, IsSplitting, with_job, TakesOnLine}
use Rattle.pmt_taking.proofs.GrownLemmas.{length-grown, history-new, act-new}
use Rattle.pmt_lines.proofs.GrowLemmas.{job-stays, job-takes}
use Rattle.pmt_lines.proofs.PlaceLemmas.{has_line-push_same, has_line-push_other, lines-with_job}
use Rattle.pmt_taking.proofs.AppearLemmas.{IsOnLine}
use Rattle.pmt_lines.proofs.LineActLemmas.{touches-own_line, untouched-other_line, lines_of-on_line, open_mark-absent, empty_job}

-- no list of places below n has n
has_line-beyond : (n : ℕ) (places : List ℕ) → All (λ place. place < n) places → has_line n places ≡ false
has_line-beyond n [] below = refl
has_line-beyond n (x ∷ places) below =
    rw (ne_eqb x n (λ e. below-itself x n (below 0 n (omega arith)) e)) (has_line-beyond n places (λ k d h. below (suc k) d (omega arith)))
  where
    below-itself : (x n : ℕ) → x < n → x ≡ n → ⊥
    below-itself x n h e = absurd (omega arith)

-- the jobs, once there is one for line l
module _ (T : Recording) (l : ℕ) (keys : List ℕ) (lines : List LineWork) (opens : List (List ℕ)) (fences : List Step) (so_far : IsSplitting T keys lines opens fences) where
  absent : has_line l keys ≡ false → has_line l (lines_of (history T (length T.events))) ≡ false
  absent e = ap (has_line l) (sym so_far.known) ∙ e

  pub prepared-jobs : All (IsLeanJob T) (with_job l keys lines)
  prepared-jobs = go (has_line l keys) refl
    where
      go : (b : Bool) → has_line l keys ≡ b → All (IsLeanJob T) (if b then lines else lines ++ record { line = l; steps = [] } ∷ [])
      go true e = so_far.job_each
      go false e = All-push (IsLeanJob T) lines (record { line = l; steps = [] }) so_far.job_each (empty_job T l (absent e))

  pub prepared-placed : ArePlaces (with_job l keys lines) opens
  prepared-placed t = go (has_line l keys)
    where
      go : (b : Bool) → All (λ place. place < length (if b then lines else lines ++ record { line = l; steps = [] } ∷ [])) (places_of t opens)
      go true = so_far.placed t
      go false = λ k d h. omega (arith, so_far.placed t k d h, length-append lines (record { line = l; steps = [] } ∷ []))

  pub prepared-open : OpenEach (history T (length T.events)) (with_job l keys lines) opens
  prepared-open = go (has_line l keys) refl
    where
      go : (b : Bool) → has_line l keys ≡ b → OpenEach (history T (length T.events)) (if b then lines else lines ++ record { line = l; steps = [] } ∷ []) opens
      go true e = so_far.open_each
      go false e = λ t place d h. at t place d h (cases_lt place (length lines))
        where
          at : (t place : ℕ) (d : LineWork) → place < length (lines ++ record { line = l; steps = [] } ∷ []) → (place < length lines) ⊎ (length lines ≤ place) →
              (has_line place (places_of t opens) ≡ true) ↔ (open_mark t (get_or (lines ++ record { line = l; steps = [] } ∷ []) place d).line (history T (length T.events)) ≢ None)
          at t place d h (inl before) = rw (get_or_append_left lines (record { line = l; steps = [] } ∷ []) d place before) (so_far.open_each t place d before)
          at t place d h (inr last) =
              let same : length lines ≡ place = omega (arith, length-append lines (record { line = l; steps = [] } ∷ [])) in
              let here = get_or_at lines (record { line = l; steps = [] }) [] d place same in
              let none = open_mark-absent t l (history T (length T.events)) (absent e) in
              let lacking : has_line place (places_of t opens) ≡ false = subst (λ n. has_line n (places_of t opens) ≡ false) same (has_line-beyond (length lines) (places_of t opens) (so_far.placed t)) in
              rw here (λ has. absurd (both_ways (has_line place (places_of t opens)) lacking has), λ mark. absurd (mark none))

-- the marks of an act on a line that is no flush stay
pub open-stays : (a : Act) (h : List Act) (lines : List LineWork) (opens : List (List ℕ)) → ((t m : ℕ) → open_mark t m (a ∷ h) ≡ open_mark t m h) → OpenEach h lines opens → OpenEach (a ∷ h) lines opens
open-stays a h lines opens same each t place d within = rw (same t (get_or lines place d).line) (each t place d within)

-- a flush of a line opens its place for the thread
module _ (t l place : ℕ) (h : List Act) (lines : List LineWork) (opens : List (List ℕ)) (threads : length opens ≡ 256) (thread : t < 256) (within : place < length lines) where
  places-same : places_of t (with_place t place opens) ≡ places_of t opens ++ place ∷ []
  places-same = get_or-set_same opens t (places_of t opens ++ place ∷ []) [] (omega (arith, threads))

  places-other : (u : ℕ) → u ≢ t → places_of u (with_place t place opens) ≡ places_of u opens
  places-other u other = get_or-set_other opens t u (places_of t opens ++ place ∷ []) [] other

  pub placed-flush : ArePlaces lines opens → ArePlaces lines (with_place t place opens)
  placed-flush placed u = go (cases_eq u t)
    where
      go : (u ≡ t) ⊎ (u ≡ t → ⊥) → All (λ p. p < length lines) (places_of u (with_place t place opens))
      go (inl same) =
          subst (λ ps. All (λ p. p < length lines) ps) (sym (ap (λ v. places_of v (with_place t place opens)) same ∙ places-same))
          (All-push (λ p. p < length lines) (places_of t opens) place (placed t) within)
      go (inr other) = subst (λ ps. All (λ p. p < length lines) ps) (sym (places-other u other)) (placed u)

  mark-own : (m : ℕ) → m ≡ l → open_mark t m (Flushes t l ∷ h) ≡ Some (count l h)
  mark-own m same = ap (λ j. open_mark t j (Flushes t l ∷ h)) same ∙ rw (eq-eqb t t refl, eq-eqb l l refl) refl

  mark-other_line : (u m : ℕ) → m ≢ l → open_mark u m (Flushes t l ∷ h) ≡ open_mark u m h
  mark-other_line u m other = rw (ne_eqb l m (λ e. other (sym e))) (go (t == u))
    where
      go : (b : Bool) → (if b && false then Some (count m h) else open_mark u m h) ≡ open_mark u m h
      go true = refl
      go false = refl

  mark-other_thread : (u m : ℕ) → u ≢ t → open_mark u m (Flushes t l ∷ h) ≡ open_mark u m h
  mark-other_thread u m other = rw (ne_eqb t u (λ e. other (sym e))) refl

  pub open-flush : ((d : LineWork) → (get_or lines place d).line ≡ l) → ((k : ℕ) (d : LineWork) → k < length lines → k ≢ place → (get_or lines k d).line ≢ l) → OpenEach h lines opens → OpenEach (Flushes t l ∷ h) lines (with_place t place opens)
  open-flush here apart each u k d in_range = go (cases_eq u t) (cases_eq k place)
    where
      some-none : (n : ℕ) → Some n ≡ None → ⊥
      some-none n e = cc

      go : (u ≡ t) ⊎ (u ≡ t → ⊥) → (k ≡ place) ⊎ (k ≡ place → ⊥) → (has_line k (places_of u (with_place t place opens)) ≡ true) ↔ (open_mark u (get_or lines k d).line (Flushes t l ∷ h) ≢ None)
      go (inl same) (inl at) =
          let has : has_line k (places_of u (with_place t place opens)) ≡ true = ap (λ v. has_line k (places_of v (with_place t place opens))) same ∙ ap (has_line k) places-same ∙ ap (λ j. has_line j (places_of t opens ++ place ∷ [])) at ∙ has_line-push_same (places_of t opens) place in
          let marked : open_mark u (get_or lines k d).line (Flushes t l ∷ h) ≡ Some (count l h) = ap (λ v. open_mark v (get_or lines k d).line (Flushes t l ∷ h)) same ∙ mark-own (get_or lines k d).line (ap (λ j. (get_or lines j d).line) at ∙ here d) in
          (λ _ none. some-none (count l h) (sym marked ∙ none), λ _. has)
      go (inl same) (inr other) =
          let has : has_line k (places_of u (with_place t place opens)) ≡ has_line k (places_of u opens) = ap (λ v. has_line k (places_of v (with_place t place opens))) same ∙ ap (has_line k) places-same ∙ has_line-push_other k (places_of t opens) place other ∙ ap (λ v. has_line k (places_of v opens)) (sym same) in
          rw (has, mark-other_line u (get_or lines k d).line (apart k d in_range other)) (each u k d in_range)
      go (inr other) at = rw (places-other u other, mark-other_thread u (get_or lines k d).line other) (each u k d in_range)

-- the state after an act on a line
module _ (T : Recording) (e : Event) (l place : ℕ) (s : Step) (keys new_keys : List ℕ) (lines new : List LineWork) (opens new_opens : List (List ℕ)) (fences new_fences : List Step) where
  pub split-on_line : IsSplitting T keys lines opens fences → TakesOnLine l s place keys new_keys lines new → IsOnLine l (act T.format e) → s.number ≡ suc (length T.events) → IsStepOf (with_event T e) l s →
      length new_opens ≡ 256 → OpenEach (act T.format e ∷ history T (length T.events)) (with_job l keys lines) new_opens → ArePlaces (with_job l keys lines) new_opens → IsThreadJobOf (with_event T e) new_fences →
      IsSplitting (with_event T e) new_keys new new_opens new_fences
  split-on_line so_far taken on last is threads open_each placed thread_job =
      record {
        known = taken.keys ∙ ap (with_line l) so_far.known ∙ sym (lines_of-on_line l (act T.format e) (history T (length T.events)) on) ∙ sym (ap lines_of grown);
        line_each = lines_then;
        job_each = λ k d h. subst (IsLeanJob (with_event T e)) (sym (at_then k d)) (job k d (subst (λ n. k < n) long h) (cases_eq k place));
        threads = threads;
        open_each = λ t k d h. subst (λ hs. (has_line k (places_of t new_opens) ≡ true) ↔ (open_mark t (get_or new k d).line hs ≢ None)) (sym grown) (rw (line_at k d (subst (λ n. k < n) long h)) (open_each t k d (subst (λ n. k < n) long h)));
        placed = λ t k d h. subst (λ n. get_or (places_of t new_opens) k d < n) (sym long) (placed t k d h);
        thread_job = thread_job;
      }
    where
      grown : history (with_event T e) (length (with_event T e).events) ≡ act T.format e ∷ history T (length T.events)
      grown = ap (history (with_event T e)) (length-grown T e) ∙ history-new T e

      written : LineWork → LineWork
      written d = with_step (get_or (with_job l keys lines) place d) s

      new_is : (d : LineWork) → new ≡ set (with_job l keys lines) place (written d)
      new_is d = taken.added d

      long : length new ≡ length (with_job l keys lines)
      long = ap length (new_is (record { line = l; steps = [] })) ∙ length-set (with_job l keys lines) place (written (record { line = l; steps = [] }))

      at_then : (k : ℕ) (d : LineWork) → get_or new k d ≡ get_or (set (with_job l keys lines) place (written d)) k d
      at_then k d = ap (λ js. get_or js k d) (new_is d)

      line_at : (k : ℕ) (d : LineWork) → k < length (with_job l keys lines) → (get_or new k d).line ≡ (get_or (with_job l keys lines) k d).line
      line_at k d h = ap line_in (at_then k d) ∙ go (cases_eq k place)
        where
          go : (k ≡ place) ⊎ (k ≡ place → ⊥) → (get_or (set (with_job l keys lines) place (written d)) k d).line ≡ (get_or (with_job l keys lines) k d).line
          go (inl same) =
              ap (λ j. (get_or (set (with_job l keys lines) place (written d)) j d).line) same
              ∙ ap line_in (get_or-set_same (with_job l keys lines) place (written d) d taken.within) ∙ ap (λ j. (get_or (with_job l keys lines) j d).line) (sym same)
          go (inr other) = ap line_in (get_or-set_other (with_job l keys lines) place k (written d) d other)

      lines_then : map line_in new ≡ new_keys
      lines_then =
          same_lists (map line_in new) (map line_in (with_job l keys lines))
          (length-map new line_in ∙ long ∙ sym (length-map (with_job l keys lines) line_in))
          (λ k d h. each k d (subst (λ n. k < n) (length-map new line_in ∙ long) h))
          ∙ lines-with_job l keys lines so_far.line_each ∙ sym taken.keys
        where
          each : (k d : ℕ) → k < length (with_job l keys lines) → get_or (map line_in new) k d ≡ get_or (map line_in (with_job l keys lines)) k d
          each k d h =
              get_or-map line_in new k (record { line = l; steps = [] }) d (subst (λ n. k < n) (sym long) h)
              ∙ line_at k (record { line = l; steps = [] }) h
              ∙ sym (get_or-map line_in (with_job l keys lines) k (record { line = l; steps = [] }) d h)

      is_act : IsAct (with_event T e) s.number (act T.format e)
      is_act = subst (λ n. IsAct (with_event T e) n (act T.format e)) (sym last) (act-new T e)

      job : (k : ℕ) (d : LineWork) → k < length (with_job l keys lines) → (k ≡ place) ⊎ (k ≡ place → ⊥) → IsLeanJob (with_event T e) (get_or (set (with_job l keys lines) place (written d)) k d)
      job k d h (inl same) =
          let lean = prepared-jobs T l keys lines opens fences so_far place d taken.within in
          let own = taken.here d in
          let touches = subst (λ m. Touches (with_event T e) m s.number) (sym own) (touches-own_line (with_event T e) s.number l (act T.format e) is_act on) in
          let step = subst (λ m. IsStepOf (with_event T e) m s) (sym own) is in
          subst (IsLeanJob (with_event T e)) (sym (ap (λ j. get_or (set (with_job l keys lines) place (written d)) j d) same ∙ get_or-set_same (with_job l keys lines) place (written d) d taken.within))
          (job-takes T e (get_or (with_job l keys lines) place d) s last step touches lean)
      job k d h (inr other) =
          let lean = prepared-jobs T l keys lines opens fences so_far k d h in
          let untouched = untouched-other_line (with_event T e) (suc (length T.events)) l (get_or (with_job l keys lines) k d).line (act T.format e) (act-new T e) on (taken.apart k d h other) in
          subst (IsLeanJob (with_event T e)) (sym (get_or-set_other (with_job l keys lines) place k (written d) d other))
          (job-stays T e (get_or (with_job l keys lines) k d) untouched lean)
