-- A run of the fences' job: a flag for each thread says whether it has flushed since its last fence.
use Rattle.std.proofs.Common.{◌≡◌, ◌≢◌, ℕ, zero, suc, ◌+◌, ◌-◌, ◌<◌, ◌≤◌, ◌⊎◌, inl, inr, Bool, true, false, not, List, [], ◌∷◌, ◌++◌, length, get_or, set, drop, refl, sym, ap, subst, ◌∙◌, arith}
use Rattle.std.specs.Prelude.{◌&&◌}
use Rattle.std.proofs.lemmas.Bool.{cases_lt, cases_eq, both_ways, false≢true}
use Rattle.std.proofs.lemmas.List.{drop_more, drop_all, get_or-set_same, get_or-set_other, length-set}
use Rattle.pmt_laws.specs.Prelude.{Act, Stores, Flushes, Clflushes, Fences, Asserts, Recording, IsAct, history, IsEmptyFence, IsRising, Has}
use Rattle.pmt_laws.proofs.Histories.{history-act, history-step, act-within, act-unique}
use Rattle.pmt_lines.specs.declared.step.StepKind.{StepKind}
use Rattle.pmt_lines.specs.declared.step.StepKind.TheVariants.{Store, Flush, Clflush, Fence}
use Rattle.pmt_lines.specs.declared.step.Step.{Step}
use Rattle.pmt_lines.specs.Jobs.{AreSteps, is_fence, is_flush, IsThreadKind, IsThreadStep, IsFlushOrFence, AFlush, AFence, IsWalkFrom, IsThreadJobOf, IsEmptyFences}
use Rattle.pmt_lines.proofs.FenceLemmas.{has_flushed, has_flushed-left, has_flushed-flush, has_flushed-fence, empty-from_test, test-from_empty}

-- lists of numbers with one more at the end
Has-push_old : (xs : List ℕ) (n k : ℕ) → Has xs k → Has (xs ++ n ∷ []) k
Has-push_old [] n k has = absurd has
Has-push_old (x ∷ xs) n k (inl e) = inl e
Has-push_old (x ∷ xs) n k (inr has) = inr (Has-push_old xs n k has)

Has-push_new : (xs : List ℕ) (n : ℕ) → Has (xs ++ n ∷ []) n
Has-push_new [] n = inl refl
Has-push_new (x ∷ xs) n = inr (Has-push_new xs n)

Has-from_push : (xs : List ℕ) (n k : ℕ) → Has (xs ++ n ∷ []) k → Has xs k ⊎ (n ≡ k)
Has-from_push [] n k (inl e) = inr e
Has-from_push [] n k (inr has) = absurd has
Has-from_push (x ∷ xs) n k (inl e) = inl (inl e)
Has-from_push (x ∷ xs) n k (inr has) = elim (Has-from_push xs n k has) [ inl old ↦ inl (inr old) | inr new ↦ inr new ]

IsRising-push : (low : ℕ) (xs : List ℕ) (n : ℕ) → IsRising low xs → low < n → ((k : ℕ) → Has xs k → k < n) → IsRising low (xs ++ n ∷ [])
IsRising-push low [] n rising later below = (later, tt)
IsRising-push low (x ∷ xs) n rising later below = (rising.0, IsRising-push x xs n rising.1 (below x (inl refl)) (λ k has. below k (inr has)))

-- the flags say of each thread whether it has flushed since its last fence
abbrev pub FlagsAt : Recording → ℕ → List Bool → Type 0
FlagsAt T n flags = (t : ℕ) → t < 256 → get_or flags t false ≡ has_flushed t (history T n)

flags-next : (T : Recording) (n : ℕ) (flags : List Bool) → ¬ IsFlushOrFence T (suc n) → FlagsAt T n flags → FlagsAt T (suc n) flags
flags-next T n flags nothing f = λ t within. f t within ∙ sym (go t (history-step T n))
  where
    left : (t : ℕ) (a : Act) → IsAct T (suc n) a → has_flushed t (a ∷ history T n) ≡ has_flushed t (history T n)
    left t (Stores l w) is = refl
    left t (Flushes u l) is = absurd (nothing (AFlush u l is))
    left t (Clflushes l) is = refl
    left t (Fences u) is = absurd (nothing (AFence u is))
    left t Asserts is = refl

    go : (t : ℕ) → ((a : Act) × IsAct T (suc n) a) ⊎ ((length T.events ≤ n) × (history T (suc n) ≡ history T n)) → has_flushed t (history T (suc n)) ≡ has_flushed t (history T n)
    go t (inl x) = ap (has_flushed t) (history-act T n x.0 x.1) ∙ left t x.0 x.1
    go t (inr x) = ap (has_flushed t) x.1

flags-over : (T : Recording) (low n : ℕ) (flags : List Bool) → low ≤ n → ((k : ℕ) → low < k → k ≤ n → ¬ IsFlushOrFence T k) → FlagsAt T low flags → FlagsAt T n flags
flags-over T low zero flags h nothing f = let e : low ≡ 0 = omega arith in subst (λ k. FlagsAt T k flags) e f
flags-over T low (suc n) flags h nothing f =
    elim (cases_lt n low) [
      | inl past ↦ let e : low ≡ suc n = omega arith in subst (λ k. FlagsAt T k flags) e f
      | inr more ↦ flags-next T n flags (nothing (suc n) (omega arith) (omega arith)) (flags-over T low n flags more (λ k a b. nothing k a (omega arith)) f)
    ]

flags-set : (T : Recording) (n t : ℕ) (flags : List Bool) (b : Bool) (a : Act) → t < length flags → IsAct T (suc n) a → has_flushed t (a ∷ history T n) ≡ b → ((u : ℕ) → u ≢ t → has_flushed u (a ∷ history T n) ≡ has_flushed u (history T n)) → FlagsAt T n flags → FlagsAt T (suc n) (set flags t b)
flags-set T n t flags b a within is own others f = λ u h. go u h (cases_eq u t) ∙ sym (ap (has_flushed u) (history-act T n a is))
  where
    go : (u : ℕ) → u < 256 → (u ≡ t) ⊎ (u ≡ t → ⊥) → get_or (set flags t b) u false ≡ has_flushed u (a ∷ history T n)
    go u h (inl same) = ap (λ v. get_or (set flags t b) v false) same ∙ get_or-set_same flags t b false within ∙ sym own ∙ ap (λ v. has_flushed v (a ∷ history T n)) (sym same)
    go u h (inr other) = get_or-set_other flags t u b false other ∙ f u h ∙ sym (others u other)

flags-step : (T : Recording) (n t : ℕ) (kind : StepKind) (flags : List Bool) → t < length flags → IsThreadKind T (suc n) t kind → FlagsAt T n flags → FlagsAt T (suc n) (set flags t (is_flush kind))
flags-step T n t (Store addr len) flags within is f = absurd is
flags-step T n t Flush flags within is f =
    flags-set T n t flags true (Flushes t is.0) within is.1 (has_flushed-flush t is.0 (history T n))
    (λ u other. has_flushed-left u (Flushes t is.0) (history T n) (λ e. other (sym e))) f
flags-step T n t Clflush flags within is f = absurd is
flags-step T n t Fence flags within is f =
    flags-set T n t flags false (Fences t) within is (has_flushed-fence t (history T n))
    (λ u other. has_flushed-left u (Fences t) (history T n) (λ e. other (sym e))) f

-- whether a step is a fence without flush
IsTold : Recording → ℕ → Bool → Type 0
IsTold T n b = (b ≡ true → IsEmptyFence T n) × (b ≡ false → ¬ IsEmptyFence T n)

told-kind : (T : Recording) (n t : ℕ) (kind : StepKind) (flags : List Bool) → t < 256 → IsThreadKind T (suc n) t kind → FlagsAt T n flags → IsTold T (suc n) (is_fence kind && not (get_or flags t false))
unfolding IsTold
told-kind T n t (Store addr len) flags within is f = absurd is
told-kind T n t Flush flags within is f = (
  λ e. absurd (false≢true e),
  λ e empty. let both : Flushes t is.0 ≡ Fences empty.thread = act-unique T (suc n) (Flushes t is.0) (Fences empty.thread) is.1 empty.is_fence in cc,
)
told-kind T n t Clflush flags within is f = absurd is
told-kind T n t Fence flags within is f = go (get_or flags t false) (f t within)
  where
    go : (b : Bool) → b ≡ has_flushed t (history T n) → (not b ≡ true → IsEmptyFence T (suc n)) × (not b ≡ false → ¬ IsEmptyFence T (suc n))
    go true e = (λ h. absurd (false≢true h), λ h empty. both_ways (has_flushed t (history T n)) (test-from_empty T t n is empty) (sym e))
    go false e = (λ h. empty-from_test T t n is (sym e), λ h. absurd (false≢true (sym h)))

-- a run after event low in a trace
pub record FencesRan (T : Recording) (low : ℕ) (steps : List Step) (flags : List Bool) (empty : List ℕ) : Type 0 where
  pub rest : IsWalkFrom (IsThreadStep T) (IsFlushOrFence T) low steps
  pub flags_at : FlagsAt T low flags
  pub told : (n : ℕ) → Has empty n → (n ≤ low) × IsEmptyFence T n
  pub all : (n : ℕ) → n ≤ low → IsEmptyFence T n → Has empty n

-- the same in whatever trace the job is of
pub record FencesRunning (steps rest : List Step) (flags : List Bool) (empty : List ℕ) : Type 0 where
  pub low : ℕ
  pub flag_each : length flags ≡ 256
  pub bounded : (n : ℕ) → Has empty n → n ≤ low
  pub rising : IsRising 0 empty
  pub following : AreSteps low rest
  pub ran : (T : Recording) → IsThreadJobOf T steps → FencesRan T low rest flags empty

pub fences-start : (steps : List Step) (flags : List Bool) → AreSteps 0 steps → length flags ≡ 256 → ((t : ℕ) → t < 256 → get_or flags t false ≡ false) → FencesRunning steps steps flags []
fences-start steps flags are each none =
    record {
      low = 0;
      flag_each = each;
      bounded = λ n has. absurd has;
      rising = tt;
      following = are;
      ran = λ T job. record { rest = job; flags_at = none; told = λ n has. absurd has; all = λ n h empty. absurd (omega (arith, (act-within T n (Fences empty.thread) empty.is_fence).0)) };
    }

-- what a step gives in a trace
record FenceStepped (T : Recording) (low : ℕ) (s : Step) (steps : List Step) (flags : List Bool) : Type 0 where
  rest : IsWalkFrom (IsThreadStep T) (IsFlushOrFence T) s.number steps
  later : low < s.number
  nothing : (n : ℕ) → low < n → n < s.number → ¬ IsEmptyFence T n
  flags_at : FlagsAt T s.number (set flags s.thread (is_flush s.kind))
  is_told : IsTold T s.number (is_fence s.kind && not (get_or flags s.thread false))

fence-stepped : (T : Recording) (low : ℕ) (s : Step) (rest : List Step) (flags : List Bool) (empty : List ℕ) → s.thread < 256 → length flags ≡ 256 → FencesRan T low (s ∷ rest) flags empty → FenceStepped T low s rest flags
fence-stepped T low s rest flags empty thread each ran = go (s.number - 1) (omega (arith, ran.rest.0))
  where
    go : (n : ℕ) → s.number ≡ suc n → FenceStepped T low s rest flags
    go n is =
        let kind = subst (λ k. IsThreadKind T k s.thread s.kind) is ran.rest.1 in
        let before = flags-over T low n flags (omega (arith, ran.rest.0)) (λ k a b. ran.rest.2 k a (omega arith)) ran.flags_at in
        record {
          rest = ran.rest.3;
          later = ran.rest.0;
          nothing = λ k a b empty. ran.rest.2 k a b (AFence empty.thread empty.is_fence);
          flags_at = subst (λ k. FlagsAt T k (set flags s.thread (is_flush s.kind))) (sym is) (flags-step T n s.thread s.kind flags (omega arith) kind before);
          is_told = subst (λ k. IsTold T k (is_fence s.kind && not (get_or flags s.thread false))) (sym is) (told-kind T n s.thread s.kind flags thread kind before);
        }

-- a step that is no fence without flush
pub fences-quiet : (steps : List Step) (s : Step) (rest : List Step) (flags : List Bool) (empty : List ℕ) → FencesRunning steps (s ∷ rest) flags empty → s.thread < 256 → (is_fence s.kind && not (get_or flags s.thread false)) ≡ false → FencesRunning steps rest (set flags s.thread (is_flush s.kind)) empty
unfolding IsTold
fences-quiet steps s rest flags empty running thread quiet =
    record {
      low = s.number;
      flag_each = length-set flags s.thread (is_flush s.kind) ∙ running.flag_each;
      bounded = λ n has. omega (arith, running.bounded n has, running.following.0);
      rising = running.rising;
      following = running.following.3;
      ran = λ T job. go T (running.ran T job);
    }
  where
    go : (T : Recording) → FencesRan T running.low (s ∷ rest) flags empty → FencesRan T s.number rest (set flags s.thread (is_flush s.kind)) empty
    go T ran =
        let x = fence-stepped T running.low s rest flags empty thread running.flag_each ran in
        record {
          rest = x.rest;
          flags_at = x.flags_at;
          told = λ n has. let y = ran.told n has in (omega (arith, y.0, x.later), y.1);
          all = λ n h e. elim (cases_lt running.low n) [
            | inl after ↦ elim (cases_lt n s.number) [
              | inl before ↦ absurd (x.nothing n after before e)
              | inr last ↦ let same : n ≡ s.number = omega arith in absurd (x.is_told.1 quiet (subst (IsEmptyFence T) same e))
            ]
            | inr old ↦ ran.all n old e
          ];
        }

-- a fence without flush
pub fences-told : (steps : List Step) (s : Step) (rest : List Step) (flags : List Bool) (empty : List ℕ) → FencesRunning steps (s ∷ rest) flags empty → s.thread < 256 → (is_fence s.kind && not (get_or flags s.thread false)) ≡ true → FencesRunning steps rest (set flags s.thread (is_flush s.kind)) (empty ++ s.number ∷ [])
unfolding IsTold
fences-told steps s rest flags empty running thread is =
    record {
      low = s.number;
      flag_each = length-set flags s.thread (is_flush s.kind) ∙ running.flag_each;
      bounded = λ n has. elim (Has-from_push empty s.number n has) [
        | inl old ↦ omega (arith, running.bounded n old, running.following.0)
        | inr new ↦ omega arith
      ];
      rising = IsRising-push 0 empty s.number running.rising (omega (arith, running.following.0)) (λ k has. omega (arith, running.bounded k has, running.following.0));
      following = running.following.3;
      ran = λ T job. go T (running.ran T job);
    }
  where
    go : (T : Recording) → FencesRan T running.low (s ∷ rest) flags empty → FencesRan T s.number rest (set flags s.thread (is_flush s.kind)) (empty ++ s.number ∷ [])
    go T ran =
        let x = fence-stepped T running.low s rest flags empty thread running.flag_each ran in
        record {
          rest = x.rest;
          flags_at = x.flags_at;
          told = λ n has. elim (Has-from_push empty s.number n has) [
            | inl old ↦ let y = ran.told n old in (omega (arith, y.0, x.later), y.1)
            | inr new ↦ (omega arith, subst (IsEmptyFence T) new (x.is_told.0 is))
          ];
          all = λ n h e. elim (cases_lt running.low n) [
            | inl after ↦ elim (cases_lt n s.number) [
              | inl before ↦ absurd (x.nothing n after before e)
              | inr last ↦ let same : s.number ≡ n = omega arith in subst (Has (empty ++ s.number ∷ [])) same (Has-push_new empty s.number)
            ]
            | inr old ↦ Has-push_old empty s.number n (ran.all n old e)
          ];
        }

-- the run of the whole job
pub fences-end : (steps : List Step) (flags : List Bool) (empty : List ℕ) → FencesRunning steps [] flags empty → (T : Recording) → IsThreadJobOf T steps → IsEmptyFences T empty
fences-end steps flags empty running T job =
    let ran = running.ran T job in
    record {
      rising = running.rising;
      just = λ n. (
        λ has. (ran.told n has).1,
        λ e. elim (cases_lt running.low n) [
          | inl after ↦ absurd (ran.rest n after (AFence e.thread e.is_fence))
          | inr old ↦ ran.all n old e
        ],
      );
    }

-- the next step of the job, and its end
pub fences-next : (steps : List Step) (i : ℕ) (d : Step) (flags : List Bool) (empty : List ℕ) → i < length steps → FencesRunning steps (drop i steps) flags empty → FencesRunning steps (get_or steps i d ∷ drop (i + 1) steps) flags empty
fences-next steps i d flags empty within running = subst (λ rest. FencesRunning steps rest flags empty) (drop_more steps i d within) running

pub fences-past : (steps : List Step) (i : ℕ) (flags : List Bool) (empty : List ℕ) → length steps ≤ i → FencesRunning steps (drop i steps) flags empty → FencesRunning steps [] flags empty
fences-past steps i flags empty past running = subst (λ rest. FencesRunning steps rest flags empty) (drop_all i steps past) running
