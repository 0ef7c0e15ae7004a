-- A run of a line's job: the state follows the line, and the raises are told as they come.
use Rattle.std.proofs.Common.{◌≡◌, ℕ, zero, suc, ◌+◌, ◌-◌, ◌<◌, ◌≤◌, ◌⊎◌, inl, inr, List, [], ◌∷◌, ◌++◌, length, get_or, drop, Option, Some, None, refl, sym, ap, subst, ◌∙◌, arith}
use Rattle.std.proofs.lemmas.Bool.{cases_lt}
use Rattle.std.proofs.lemmas.List.{drop_more, drop_all}
use Rattle.pmt_laws.specs.Prelude.{Act, Stores, Flushes, Clflushes, Fences, Asserts, Recording, IsAct, history, event_limit, open_mark, front_at}
use Rattle.pmt_laws.proofs.Histories.{history-act, history-step, act-within, front-mono}
use Rattle.pmt_marks.specs.Lines.{Line, Follows, LeavesLineUnchanged}
use Rattle.pmt_marks.proofs.FollowLemmas.{others_leave}
use Rattle.pmt_lines.specs.Jobs.{Raise, RaisesBetween, IsRaises, AreSteps, IsKind, IsStepOf, Touches, ByStore, ByFlush, ByClflush, ByFence, IsWalkFrom, IsJobOf, TakesKind, TakesStep}
use Rattle.pmt_lines.specs.declared.step.StepKind.{StepKind}
use Rattle.pmt_lines.specs.declared.step.StepKind.TheVariants.{Store, Flush, Clflush, Fence}
use Rattle.pmt_lines.specs.declared.step.Step.{Step}

-- an event that doesn't matter to the line concerns other lines alone
pub leaves-line_unchanged : (T : Recording) (l n : ℕ) (a : Act) → IsAct T (suc n) a → ¬ Touches T l (suc n) → LeavesLineUnchanged l (history T n) a
leaves-line_unchanged T l n (Stores k w) is untouched = λ same. untouched (ByStore w (subst (λ j. IsAct T (suc n) (Stores j w)) same is))
leaves-line_unchanged T l n (Flushes t k) is untouched = λ same. untouched (ByFlush t (subst (λ j. IsAct T (suc n) (Flushes t j)) same is))
leaves-line_unchanged T l n (Clflushes k) is untouched = λ same. untouched (ByClflush (subst (λ j. IsAct T (suc n) (Clflushes j)) same is))
leaves-line_unchanged T l n (Fences t) is untouched = go (open_mark t l (history T n)) refl
  where
    before : suc n - 1 ≡ n
    before = omega arith

    go : (mark : Option ℕ) → open_mark t l (history T n) ≡ mark → open_mark t l (history T n) ≡ None
    go None e = e
    go (Some m) e = absurd (untouched (ByFence t is (λ none. let e' : open_mark t l (history T n) ≡ None = ap (λ k. open_mark t l (history T k)) (sym before) ∙ none in let never : Some m ≡ None = sym e ∙ e' in cc)))
leaves-line_unchanged T l n Asserts is untouched = tt

-- the state is still that of the line after an event that doesn't matter to it
follows-next : (T : Recording) (l n : ℕ) (line : Line) → ¬ Touches T l (suc n) → Follows l (history T n) line → Follows l (history T (suc n)) line
follows-next T l n line untouched f =
    elim (history-step T n) [
      | inl x ↦ rw (history-act T n x.0 x.1) (others_leave l (history T n) line x.0 (leaves-line_unchanged T l n x.0 x.1 untouched) f)
      | inr x ↦ rw x.1 f
    ]

-- and after several such events
pub follows-over : (T : Recording) (l low n : ℕ) (line : Line) → low ≤ n → ((k : ℕ) → low < k → k ≤ n → ¬ Touches T l k) → Follows l (history T low) line → Follows l (history T n) line
follows-over T l low zero line h untouched f = let e : low ≡ 0 = omega arith in subst (λ k. Follows l (history T k) line) e f
follows-over T l low (suc n) line h untouched f =
    elim (cases_lt n low) [
      | inl past ↦ let e : low ≡ suc n = omega arith in subst (λ k. Follows l (history T k) line) e f
      | inr more ↦ follows-next T l n line (untouched (suc n) (omega arith) (omega arith)) (follows-over T l low n line more (λ k a b. untouched k a (omega arith)) f)
    ]

-- the front stays over events that don't matter to the line
front-stays : (T : Recording) (l low n : ℕ) (line : Line) → low ≤ n → ((k : ℕ) → low < k → k ≤ n → ¬ Touches T l k) → Follows l (history T low) line → front_at T l n ≡ front_at T l low
front-stays T l low n line h untouched f = sym (follows-over T l low n line h untouched f).fronts ∙ f.fronts

-- no raise for a while
raises-stay : (T : Recording) (l first low high : ℕ) (raises : List Raise) → RaisesBetween T l first low raises → low ≤ high → ((n : ℕ) → low ≤ n → n ≤ high → front_at T l n ≡ front_at T l low) → RaisesBetween T l first high raises
raises-stay T l first low high [] r h same = (omega (arith, r.0), λ n above below. go n above below (cases_lt n low))
  where
    go : (n : ℕ) → first ≤ n → n ≤ high → (n < low) ⊎ (low ≤ n) → front_at T l n ≡ front_at T l first
    go n above below (inl before) = r.1 n above (omega arith)
    go n above below (inr after) = same n after below ∙ r.1 low r.0 (omega arith)
raises-stay T l first low high (x ∷ raises) r h same = (r.0, r.1, r.2, r.3, raises-stay T l x.0 low high raises r.4 h same)

-- one raise more
raises-push : (T : Recording) (l first low : ℕ) (raises : List Raise) (x : Raise) → RaisesBetween T l first low raises → low < x.0 → ((n : ℕ) → low ≤ n → n < x.0 → front_at T l n ≡ front_at T l low) → front_at T l low < x.1 → front_at T l x.0 ≡ x.1 → RaisesBetween T l first x.0 (raises ++ x ∷ [])
raises-push T l first low [] x r later same more is = (
  omega (arith, r.0),
  λ n above below. go n above below (cases_lt n low),
  rw (← r.1 low r.0 (omega arith)) more,
  is,
  (omega arith, λ n above below. let e : n ≡ x.0 = omega arith in ap (front_at T l) e),
)
  where
    go : (n : ℕ) → first ≤ n → n < x.0 → (n < low) ⊎ (low ≤ n) → front_at T l n ≡ front_at T l first
    go n above below (inl before) = r.1 n above (omega arith)
    go n above below (inr after) = same n after below ∙ r.1 low r.0 (omega arith)
raises-push T l first low (y ∷ raises) x r later same more is = (r.0, r.1, r.2, r.3, raises-push T l y.0 low raises x r.4 later same more is)

-- a run after event low, with the rest of the job to come
pub record Ran (T : Recording) (l low : ℕ) (steps : List Step) (line : Line) (raises : List Raise) : Type 0 where
  pub rest : IsWalkFrom (IsStepOf T l) (Touches T l) low steps
  pub within : low ≤ length T.events
  pub follows : Follows l (history T low) line
  pub told : RaisesBetween T l 0 low raises

-- the same in whatever trace the job is of
pub record Running (l : ℕ) (steps rest : List Step) (line : Line) (raises : List Raise) : Type 0 where
  pub low : ℕ
  pub rising : AreSteps low rest
  pub counted : line.count ≤ low
  pub ran : (T : Recording) → IsJobOf T l steps → Ran T l low rest line raises

-- a step's number is that of an event
pub kind-within : (T : Recording) (l n t : ℕ) (kind : StepKind) → IsKind T l n t kind → (1 ≤ n) × (n ≤ length T.events)
kind-within T l n t (Store addr len) is = act-within T n (Stores l is.0) is.1
kind-within T l n t Flush is = act-within T n (Flushes t l) is
kind-within T l n t Clflush is = act-within T n (Clflushes l) is
kind-within T l n t Fence is = act-within T n (Fences t) is

-- the state after a step follows the line
pub follows-kind : (T : Recording) (l n t : ℕ) (kind : StepKind) (old new : Line) → IsKind T l (suc n) t kind → TakesKind l t kind old new → Follows l (history T n) old → Follows l (history T (suc n)) new
follows-kind T l n t (Store addr len) old new is takes f = rw (history-act T n (Stores l is.0) is.1) (takes (history T n) is.0 f)
follows-kind T l n t Flush old new is takes f = rw (history-act T n (Flushes t l) is) (takes (history T n) f)
follows-kind T l n t Clflush old new is takes f = rw (history-act T n (Clflushes l) is) (takes (history T n) f)
follows-kind T l n t Fence old new is takes f = rw (history-act T n (Fences t) is) (takes (history T n) f)

follows-step : (T : Recording) (l low n : ℕ) (s : Step) (old new : Line) → s.number ≡ suc n → low ≤ n → IsStepOf T l s → ((k : ℕ) → low < k → k < s.number → ¬ Touches T l k) → TakesStep s old new → Follows l (history T low) old → Follows l (history T s.number) new
follows-step T l low n s old new is h one untouched takes f =
    let kind = subst (λ k. IsKind T l k s.thread s.kind) is one.kind in
    let before = follows-over T l low n old h (λ k a b. untouched k a (omega arith)) f in
    subst (λ k. Follows l (history T k) new) (sym is) (follows-kind T l n s.thread s.kind old new kind (takes l) before)

-- what a step gives in a trace: the state follows, and the front stays up to the step
record Stepped (T : Recording) (l low : ℕ) (s : Step) (steps : List Step) (old new : Line) : Type 0 where
  rest : IsWalkFrom (IsStepOf T l) (Touches T l) s.number steps
  later : low < s.number
  within : s.number ≤ length T.events
  follows : Follows l (history T s.number) new
  stays : (n : ℕ) → low ≤ n → n < s.number → front_at T l n ≡ front_at T l low
  old_front : old.front ≡ front_at T l low
  new_front : new.front ≡ front_at T l s.number

stepped : (T : Recording) (l low : ℕ) (s : Step) (rest : List Step) (old new : Line) (raises : List Raise) → Ran T l low (s ∷ rest) old raises → TakesStep s old new → Stepped T l low s rest old new
stepped T l low s rest old new raises ran takes = go (s.number - 1) (omega (arith, ran.rest.0))
  where
    go : (n : ℕ) → s.number ≡ suc n → Stepped T l low s rest old new
    go n is =
        let f = follows-step T l low n s old new is (omega (arith, ran.rest.0)) ran.rest.1 ran.rest.2 takes ran.follows in
        record {
          rest = ran.rest.3;
          later = ran.rest.0;
          within = (kind-within T l s.number s.thread s.kind ran.rest.1.kind).1;
          follows = f;
          stays = λ k above below. front-stays T l low k old above (λ j a b. ran.rest.2 j a (omega arith)) ran.follows;
          old_front = ran.follows.fronts;
          new_front = f.fronts;
        }

-- a step that raises nothing
pub running-quiet : (l : ℕ) (steps : List Step) (s : Step) (rest : List Step) (old new : Line) (raises : List Raise) → Running l steps (s ∷ rest) old raises → TakesStep s old new → new.count ≤ old.count + 1 → (old.front < new.front → ⊥) → Running l steps rest new raises
running-quiet l steps s rest old new raises running takes counted quiet =
    record {
      low = s.number;
      rising = running.rising.3;
      counted = omega (arith, running.counted, running.rising.0, counted);
      ran = λ T job. go T (running.ran T job);
    }
  where
    go : (T : Recording) → Ran T l running.low (s ∷ rest) old raises → Ran T l s.number rest new raises
    go T ran =
        let x = stepped T l running.low s rest old new raises ran takes in
        let grown : front_at T l running.low ≤ front_at T l s.number = front-mono T l running.low s.number (omega (arith, x.later)) in
        let same : front_at T l s.number ≡ front_at T l running.low = grind (arith, quiet, x.old_front, x.new_front, grown) in
        record {
          rest = x.rest;
          within = x.within;
          follows = x.follows;
          told = raises-stay T l 0 running.low s.number raises ran.told (omega (arith, x.later)) (λ n above below. stays T x same n above below (cases_lt n s.number));
        }
      where
        stays : (T : Recording) → Stepped T l running.low s rest old new → front_at T l s.number ≡ front_at T l running.low → (n : ℕ) → running.low ≤ n → n ≤ s.number → (n < s.number) ⊎ (s.number ≤ n) → front_at T l n ≡ front_at T l running.low
        stays T x same n above below (inl before) = x.stays n above before
        stays T x same n above below (inr after) = let e : n ≡ s.number = omega arith in ap (front_at T l) e ∙ same

-- a step that raises the front
pub running-raised : (l : ℕ) (steps : List Step) (s : Step) (rest : List Step) (old new : Line) (raises : List Raise) → Running l steps (s ∷ rest) old raises → TakesStep s old new → new.count ≤ old.count + 1 → old.front < new.front → Running l steps rest new (raises ++ (s.number, new.front) ∷ [])
running-raised l steps s rest old new raises running takes counted raised =
    record {
      low = s.number;
      rising = running.rising.3;
      counted = omega (arith, running.counted, running.rising.0, counted);
      ran = λ T job. go T (running.ran T job);
    }
  where
    go : (T : Recording) → Ran T l running.low (s ∷ rest) old raises → Ran T l s.number rest new (raises ++ (s.number, new.front) ∷ [])
    go T ran =
        let x = stepped T l running.low s rest old new raises ran takes in
        record {
          rest = x.rest;
          within = x.within;
          follows = x.follows;
          told = raises-push T l 0 running.low raises ((s.number, new.front)) ran.told x.later x.stays (omega (arith, x.old_front, raised)) (sym x.new_front);
        }

-- the run of the whole job
pub running-end : (l : ℕ) (steps : List Step) (line : Line) (raises : List Raise) → Running l steps [] line raises → (T : Recording) → IsJobOf T l steps → IsRaises T l raises
running-end l steps line raises running T job =
    let ran = running.ran T job in
    raises-stay T l 0 running.low (length T.events) raises ran.told ran.within
    (λ n above below. front-stays T l running.low n line above (λ k a b. ran.rest k a) ran.follows)

-- and the state of the line after it
pub running-follows : (l : ℕ) (steps : List Step) (line : Line) (raises : List Raise) → Running l steps [] line raises → (T : Recording) → IsJobOf T l steps → Follows l (history T (length T.events)) line
running-follows l steps line raises running T job =
    let ran = running.ran T job in
    follows-over T l running.low (length T.events) line ran.within (λ k a b. ran.rest k a) ran.follows

-- the next step of the job, and its end
pub running-next : (l : ℕ) (steps : List Step) (i : ℕ) (d : Step) (line : Line) (raises : List Raise) → i < length steps → Running l steps (drop i steps) line raises → Running l steps (get_or steps i d ∷ drop (i + 1) steps) line raises
running-next l steps i d line raises within running = subst (λ rest. Running l steps rest line raises) (drop_more steps i d within) running

pub running-past : (l : ℕ) (steps : List Step) (i : ℕ) (line : Line) (raises : List Raise) → length steps ≤ i → Running l steps (drop i steps) line raises → Running l steps [] line raises
running-past l steps i line raises past running = subst (λ rest. Running l steps rest line raises) (drop_all i steps past) running

-- one more store can be counted
pub running-room : (l : ℕ) (steps : List Step) (s : Step) (rest : List Step) (line : Line) (raises : List Raise) → Running l steps (s ∷ rest) line raises → line.count < event_limit
running-room l steps s rest line raises running = omega (arith, running.counted, running.rising.0, running.rising.1)
