-- Jobs by their places: a step added to the job of a line, and a fence added to each of several.
use Rattle.std.proofs.Common.{◌≡◌, ◌≢◌, ℕ, zero, suc, ◌<◌, ◌≤◌, ◌⊎◌, inl, inr, Bool, true, false, not, List, [], ◌∷◌, ◌++◌, length, get_or, set, map, Some, refl, sym, ap, ◌∙◌, arith}
use Rattle.std.specs.Prelude.{◌==◌, ◌||◌, nat_eq, if◌then◌else◌, slice_get, All}
use Rattle.pmt_laws.specs.Prelude.{list_any, IsDistinct, has_line, with_line}
use Rattle.std.proofs.lemmas.Bool.{cases_eq, cases_order, eq-eqb, ne_eqb, eqb-true, not-true, not-false}
use Rattle.std.proofs.lemmas.Bool.Decides.{Decides-eqb}
use Rattle.std.proofs.lemmas.List.{get_or-map, get_or_default, get_or-set_same, get_or-set_other, length-set, map-append, map-set}
use Rattle.std.proofs.lemmas.List.Elements.{All-push}
use Rattle.std.proofs.lemmas.Map.Made.{AllPairs-from_IsDistinct}
use Rattle.std.proofs.lemmas.Option.{get_or_from_slice_get, slice_get_within}
use Rattle.indexmap.specs.IndexSet.{insert_key}
use Rattle.pmt_taking.proofs.AppearLemmas.{has_line-push}
use Rattle.pmt_lines.specs.declared.step.Step.{Step}
use Rattle.pmt_lines.specs.Jobs.{LineWork, last_number, with_step, line_in, with_job, TakesOnLine, EndBefore, EndsAt}
use Rattle.pmt_lines.proofs.StepLemmas.{last_number-push}

-- lists of lists of places
pub get_or-map_none : {X : Type 0} (f : X → List ℕ) (xs : List X) (t : ℕ) → All (λ x. f x ≡ []) xs → get_or (map f xs) t [] ≡ []
get_or-map_none f [] t none = refl
get_or-map_none f (x ∷ xs) zero none = none 0 x (omega arith)
get_or-map_none f (x ∷ xs) (suc t) none = get_or-map_none f xs t (λ k d h. none (suc k) d (omega arith))

pub map-set_more : {X : Type 0} (f : X → List ℕ) (xs : List X) (t : ℕ) (old new : X) (place : ℕ) → t < length xs → old ≡ get_or xs t old → f new ≡ f old ++ place ∷ [] → map f (set xs t new) ≡ set (map f xs) t (get_or (map f xs) t [] ++ place ∷ [])
map-set_more f xs t old new place within read is =
    map-set f xs t new ∙ ap (set (map f xs) t) (is ∙ ap (λ (ps : List ℕ). ps ++ place ∷ []) (sym (get_or-map f xs t old [] within ∙ ap f (sym read))))

-- one place more
pub has_line-push_same : (places : List ℕ) (place : ℕ) → has_line place (places ++ place ∷ []) ≡ true
has_line-push_same places place = has_line-push place places place ∙ rw (eq-eqb place place refl) (go (has_line place places))
  where
    go : (b : Bool) → (b || true) ≡ true
    go true = refl
    go false = refl

pub has_line-push_other : (k : ℕ) (places : List ℕ) (place : ℕ) → k ≢ place → has_line k (places ++ place ∷ []) ≡ has_line k places
has_line-push_other k places place other = has_line-push k places place ∙ rw (ne_eqb place k (λ e. other (sym e))) (go (has_line k places))
  where
    go : (b : Bool) → (b || false) ≡ b
    go true = refl
    go false = refl

-- the set of lines and the list of lines grow alike
flip : (a b : ℕ) → nat_eq a b ≡ nat_eq b a
flip a b = go (cases_eq a b)
  where
    go : (a ≡ b) ⊎ (a ≡ b → ⊥) → nat_eq a b ≡ nat_eq b a
    go (inl same) = eq-eqb a b same ∙ sym (eq-eqb b a (sym same))
    go (inr other) = ne_eqb a b other ∙ sym (ne_eqb b a (λ e. other (sym e)))

pub list_any-has_line : (l : ℕ) (keys : List ℕ) → list_any (nat_eq l) keys ≡ has_line l keys
list_any-has_line l [] = refl
list_any-has_line l (k ∷ keys) = ap (λ b. b || list_any (nat_eq l) keys) (flip l k) ∙ ap (λ b. (k == l) || b) (list_any-has_line l keys)

pub insert_key-with_line : (l : ℕ) (keys : List ℕ) → insert_key nat_eq keys l ≡ with_line l keys
insert_key-with_line l keys = ap (λ b. if b then keys else keys ++ l ∷ []) (list_any-has_line l keys)

-- the jobs with one for the line have its line
pub lines-with_job : (l : ℕ) (keys : List ℕ) (jobs : List LineWork) → map line_in jobs ≡ keys → map line_in (with_job l keys jobs) ≡ with_line l keys
lines-with_job l keys jobs same = go (has_line l keys)
  where
    go : (b : Bool) → map line_in (if b then jobs else jobs ++ record { line = l; steps = [] } ∷ []) ≡ (if b then keys else keys ++ l ∷ [])
    go true = same
    go false = map-append line_in jobs (record { line = l; steps = [] } ∷ []) ∙ ap (λ (ks : List ℕ). ks ++ l ∷ []) same

-- all steps still come before the number
pub end_before-with_job : (n l : ℕ) (keys : List ℕ) (jobs : List LineWork) → 1 ≤ n → EndBefore n jobs → EndBefore n (with_job l keys jobs)
end_before-with_job n l keys jobs some before = go (has_line l keys)
  where
    go : (b : Bool) → EndBefore n (if b then jobs else jobs ++ record { line = l; steps = [] } ∷ [])
    go true = before
    go false = All-push (λ (job : LineWork). last_number 0 job.steps < n) jobs (record { line = l; steps = [] }) before (omega arith)

-- the line at a place
line-at : (jobs : List LineWork) (keys : List ℕ) (k : ℕ) (d : LineWork) → map line_in jobs ≡ keys → k < length jobs → (get_or jobs k d).line ≡ get_or keys k 0
line-at jobs keys k d same within = sym (get_or-map line_in jobs k d 0 within) ∙ ap (λ ks. get_or ks k 0) same

length-lines : (jobs : List LineWork) (keys : List ℕ) → map line_in jobs ≡ keys → length keys ≡ length jobs
length-lines jobs keys same = ap length (sym same) ∙ go jobs
  where
    go : (xs : List LineWork) → length (map line_in xs) ≡ length xs
    go [] = refl
    go (x ∷ xs) = ap suc (go xs)

-- the step is added where the set found the line, or put it
pub takes_on_line : (l : ℕ) (s : Step) (place : ℕ) (keys : List ℕ) (jobs : List LineWork) (k : ℕ) → map line_in jobs ≡ keys → IsDistinct nat_eq (with_line l keys) → slice_get (with_line l keys) place ≡ Some k → nat_eq l k ≡ true →
    TakesOnLine l s place keys (with_line l keys) jobs (set (with_job l keys jobs) place (with_step (get_or (with_job l keys jobs) place (record { line = l; steps = [] })) s))
takes_on_line l s place keys jobs k same distinct stored equal =
    record {
      keys = refl;
      within = within;
      here = λ d. here d;
      apart = λ j d h other e. apart j d h other e (cases_order j place);
      added = λ d. ap (λ j. set (with_job l keys jobs) place (with_step j s)) (get_or_default (with_job l keys jobs) place (record { line = l; steps = [] }) d within);
    }
  where
    lines : map line_in (with_job l keys jobs) ≡ with_line l keys
    lines = lines-with_job l keys jobs same

    within : place < length (with_job l keys jobs)
    within = omega (arith, slice_get_within (with_line l keys) place k stored, length-lines (with_job l keys jobs) (with_line l keys) lines)

    at_place : get_or (with_line l keys) place 0 ≡ l
    at_place = get_or_from_slice_get (with_line l keys) place k 0 stored ∙ sym (eqb-true l k equal)

    here : (d : LineWork) → (get_or (with_job l keys jobs) place d).line ≡ l
    here d = line-at (with_job l keys jobs) (with_line l keys) place d lines within ∙ at_place

    differ : (i j d : ℕ) → i < j → j < length (with_line l keys) → get_or (with_line l keys) i d ≢ get_or (with_line l keys) j d
    differ i j d = AllPairs-from_IsDistinct Decides-eqb (with_line l keys) distinct i j d

    long : length (with_line l keys) ≡ length (with_job l keys jobs)
    long = length-lines (with_job l keys jobs) (with_line l keys) lines

    apart : (j : ℕ) (d : LineWork) → j < length (with_job l keys jobs) → j ≢ place → (get_or (with_job l keys jobs) j d).line ≡ l → (j ≡ place) ⊎ ((j < place) ⊎ (place < j)) → ⊥
    apart j d h other e (inl is) = other is
    apart j d h other e (inr (inl before)) =
        differ j place 0 before (omega (arith, long, within)) (sym (line-at (with_job l keys jobs) (with_line l keys) j d lines h) ∙ e ∙ sym at_place)
    apart j d h other e (inr (inr after)) =
        differ place j 0 after (omega (arith, long, h)) (at_place ∙ sym e ∙ line-at (with_job l keys jobs) (with_line l keys) j d lines h)

module _ (places : List ℕ) (s : Step) (old mid : List LineWork) (place : ℕ) (d : LineWork) (ends : EndsAt places s old mid) (within : place < length old) (before : EndBefore s.number old) where
  -- the job at the place has no such fence yet: it gets one
  pub ends-more : last_number 0 (get_or mid place d).steps < s.number → EndsAt (places ++ place ∷ []) s old (set mid place (with_step (get_or mid place d) s))
  ends-more lacks =
      record {
        same_length = length-set mid place (with_step (get_or mid place d) s) ∙ ends.same_length;
        each = λ k e h. each k e h (cases_eq k place);
      }
    where
      fresh : (b : Bool) → has_line place places ≡ b → get_or mid place d ≡ (if b then with_step (get_or old place d) s else get_or old place d) → has_line place places ≡ false
      fresh true e is = absurd (omega (arith, last_number-push 0 (get_or old place d).steps s, ap (λ (j : LineWork). last_number 0 j.steps) is))
      fresh false e is = e

      lacking : has_line place places ≡ false
      lacking = fresh (has_line place places) refl (ends.each place d within)

      unchanged : get_or mid place d ≡ get_or old place d
      unchanged = ends.each place d within ∙ ap (λ b. if b then with_step (get_or old place d) s else get_or old place d) lacking

      each : (k : ℕ) (e : LineWork) → k < length old → (k ≡ place) ⊎ (k ≡ place → ⊥) → get_or (set mid place (with_step (get_or mid place d) s)) k e ≡ (if has_line k (places ++ place ∷ []) then with_step (get_or old k e) s else get_or old k e)
      each k e h (inl same) =
          ap (λ j. get_or (set mid place (with_step (get_or mid place d) s)) j e) same
          ∙ get_or-set_same mid place (with_step (get_or mid place d) s) e (omega (arith, ends.same_length))
          ∙ ap (λ j. with_step j s) (unchanged ∙ get_or_default old place d e within)
          ∙ sym (ap (λ b. if b then with_step (get_or old place e) s else get_or old place e) (has_line-push_same places place))
          ∙ ap (λ j. if has_line j (places ++ place ∷ []) then with_step (get_or old j e) s else get_or old j e) (sym same)
      each k e h (inr other) =
          get_or-set_other mid place k (with_step (get_or mid place d) s) e other ∙ ends.each k e h
          ∙ ap (λ b. if b then with_step (get_or old k e) s else get_or old k e) (sym (has_line-push_other k places place other))

  -- it has one already
  pub ends-same : s.number ≤ last_number 0 (get_or mid place d).steps → EndsAt (places ++ place ∷ []) s old mid
  ends-same has = record { same_length = ends.same_length; each = λ k e h. ends.each k e h ∙ ap (λ b. if b then with_step (get_or old k e) s else get_or old k e) (sym (same k (cases_eq k place))) }
    where
      held : (b : Bool) → has_line place places ≡ b → get_or mid place d ≡ (if b then with_step (get_or old place d) s else get_or old place d) → has_line place places ≡ true
      held true e is = e
      held false e is = absurd (omega (arith, before place d within, ap (λ (j : LineWork). last_number 0 j.steps) is))

      same : (k : ℕ) → (k ≡ place) ⊎ (k ≡ place → ⊥) → has_line k (places ++ place ∷ []) ≡ has_line k places
      same k (inl is) = ap (λ j. has_line j (places ++ place ∷ [])) is ∙ has_line-push_same places place ∙ sym (held (has_line place places) refl (ends.each place d within)) ∙ ap (λ j. has_line j places) (sym is)
      same k (inr other) = has_line-push_other k places place other

-- what the set tells of a line
pub has_line-from_new : (l : ℕ) (keys : List ℕ) (b : Bool) → b ≡ not (list_any (nat_eq l) keys) → b ≡ true → has_line l keys ≡ false
has_line-from_new l keys b is new = sym (list_any-has_line l keys) ∙ not-true (list_any (nat_eq l) keys) (sym is ∙ new)

pub has_line-from_old : (l : ℕ) (keys : List ℕ) (b : Bool) → b ≡ not (list_any (nat_eq l) keys) → b ≡ false → has_line l keys ≡ true
has_line-from_old l keys b is old = sym (list_any-has_line l keys) ∙ not-false (list_any (nat_eq l) keys) (sym is ∙ old)

-- the jobs where the line is new, and where it is not
pub with_job-new : (l : ℕ) (keys : List ℕ) (jobs : List LineWork) → has_line l keys ≡ false → with_job l keys jobs ≡ jobs ++ record { line = l; steps = [] } ∷ []
with_job-new l keys jobs e = rw e refl

pub with_job-old : (l : ℕ) (keys : List ℕ) (jobs : List LineWork) → has_line l keys ≡ true → with_job l keys jobs ≡ jobs
with_job-old l keys jobs e = rw e refl
