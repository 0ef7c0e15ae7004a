-- How the state of a line goes on following it, act by act.
use Rattle.std.proofs.Common.{◌≡◌, ◌≢◌, ℕ, ◌≤◌, ◌⊎◌, inl, inr, Bool, true, false, List, [], ◌∷◌, Some, None, refl, sym, ap, ◌∙◌, arith}
use Rattle.std.specs.Prelude.{◌==◌, ◌&&◌, if◌then◌else◌, max, unwrap_or}
use Rattle.std.proofs.lemmas.Bool.{eq-eqb, ne_eqb, eqb-true, cases_eq}
use Rattle.pmt_laws.specs.Prelude.{Act, Stores, Flushes, Clflushes, Fences, Asserts, count, mark, open_mark, front}
use Rattle.pmt_laws.proofs.Histories.{mark-le-count}
use Rattle.pmt_marks.specs.Lines.{Line, Follows, mark_in, Completes, LineStaysUnchanged}

-- a thread's last mark is open, or in the front
abbrev IsSettled : ℕ → ℕ → List Act → Type 0
IsSettled t l h = (open_mark t l h ≡ Some (mark t l h)) ⊎ ((open_mark t l h ≡ None) × (mark t l h ≤ front l h))

mark-settled : (t l : ℕ) (h : List Act) → IsSettled t l h
mark-settled t l [] = inr (refl, omega arith)
mark-settled t l (Stores k w ∷ h) = mark-settled t l h
mark-settled t l (Flushes u k ∷ h) = go ((u == t) && (k == l)) (mark-settled t l h)
  where
    go : (b : Bool) → IsSettled t l h →
        ((if b then Some (count l h) else open_mark t l h) ≡ Some (if b then count l h else mark t l h))
        ⊎ (((if b then Some (count l h) else open_mark t l h) ≡ None) × ((if b then count l h else mark t l h) ≤ front l h))
    go true s = inl refl
    go false s = s
mark-settled t l (Clflushes k ∷ h) = go (k == l) (mark-settled t l h)
  where
    go : (b : Bool) → IsSettled t l h →
        (open_mark t l h ≡ Some (mark t l h)) ⊎ ((open_mark t l h ≡ None) × (mark t l h ≤ (if b then count l h else front l h)))
    go true (inl e) = inl e
    go true (inr s) = inr (s.0, mark-le-count t l h)
    go false s = s
mark-settled t l (Fences u ∷ h) = go (u == t) refl (mark-settled t l h)
  where
    go : (b : Bool) → (u == t) ≡ b → IsSettled t l h →
        ((if b then None else open_mark t l h) ≡ Some (mark t l h))
        ⊎ (((if b then None else open_mark t l h) ≡ None) × (mark t l h ≤ max (front l h) (mark u l h)))
    go true e s = let same : mark u l h ≡ mark t l h = ap (λ v. mark v l h) (eqb-true u t e) in inr (refl, omega arith)
    go false e (inl f) = inl f
    go false e (inr s) = inr (s.0, omega (arith, s.1))
mark-settled t l (Asserts ∷ h) = mark-settled t l h

-- a fence raises the front to the open mark alone: an earlier mark is in it already
pub front-fence : (t l : ℕ) (h : List Act) → front l (Fences t ∷ h) ≡ max (front l h) (unwrap_or (open_mark t l h) 0)
front-fence t l h = go (mark-settled t l h)
  where
    go : IsSettled t l h → max (front l h) (mark t l h) ≡ max (front l h) (unwrap_or (open_mark t l h) 0)
    go (inl e) = rw e refl
    go (inr s) = rw s.0 (omega (arith, s.1))

open_mark-fence : (t u l : ℕ) (h : List Act) → u ≢ t → open_mark u l (Fences t ∷ h) ≡ open_mark u l h
open_mark-fence t u l h other = let e : (t == u) ≡ false = ne_eqb t u (λ same. other (sym same)) in rw e refl

open_mark-own_fence : (t l : ℕ) (h : List Act) → open_mark t l (Fences t ∷ h) ≡ None
open_mark-own_fence t l h = let e : (t == t) ≡ true = eq-eqb t t refl in rw e refl

-- before the first act
pub follows-start : (l : ℕ) → Follows l [] (record { count = 0; front = 0; marks = [] })
follows-start l = record { counts = refl; fronts = refl; marks = λ t. refl }

-- after a fence
pub follows-fence : (l t : ℕ) (h : List Act) (old new : Line) → Completes t old new → Follows l h old → Follows l (Fences t ∷ h) new
follows-fence l t h old new c f =
    record { counts = c.count ∙ f.counts; fronts = c.front ∙ raised ∙ sym (front-fence t l h); marks = λ u. go u (cases_eq u t) }
  where
    raised : max old.front (unwrap_or (mark_in t old.marks) 0) ≡ max (front l h) (unwrap_or (open_mark t l h) 0)
    raised = rw (f.fronts, f.marks t) refl

    go : (u : ℕ) → (u ≡ t) ⊎ (u ≡ t → ⊥) → mark_in u new.marks ≡ open_mark u l (Fences t ∷ h)
    go u (inl same) =
        ap (λ v. mark_in v new.marks) same ∙ c.marks.mark ∙ sym (open_mark-own_fence t l h) ∙ ap (λ v. open_mark v l (Fences t ∷ h)) (sym same)
    go u (inr other) = c.marks.others u other ∙ f.marks u ∙ sym (open_mark-fence t u l h other)

-- after an act that concerns other lines alone
pub others_leave : LineStaysUnchanged
others_leave l h line (Stores k w) other f =
    let e : (k == l) ≡ false = ne_eqb k l other in record { counts = rw e f.counts; fronts = f.fronts; marks = f.marks }
others_leave l h line (Flushes t k) other f = record { counts = f.counts; fronts = f.fronts; marks = λ u. f.marks u ∙ sym (go u (t == u)) }
  where
    e : (k == l) ≡ false
    e = ne_eqb k l other

    go : (u : ℕ) (b : Bool) → (if b && (k == l) then Some (count l h) else open_mark u l h) ≡ open_mark u l h
    go u true = rw e refl
    go u false = refl
others_leave l h line (Clflushes k) other f =
    let e : (k == l) ≡ false = ne_eqb k l other in record { counts = f.counts; fronts = rw e f.fronts; marks = f.marks }
others_leave l h line (Fences t) none f = record { counts = f.counts; fronts = f.fronts ∙ sym (front-fence t l h ∙ unraised); marks = λ u. go u (cases_eq u t) }
  where
    unraised : max (front l h) (unwrap_or (open_mark t l h) 0) ≡ front l h
    unraised = rw none (omega arith)

    go : (u : ℕ) → (u ≡ t) ⊎ (u ≡ t → ⊥) → mark_in u line.marks ≡ open_mark u l (Fences t ∷ h)
    go u (inl same) =
        f.marks u ∙ ap (λ v. open_mark v l h) same ∙ none ∙ sym (open_mark-own_fence t l h) ∙ ap (λ v. open_mark v l (Fences t ∷ h)) (sym same)
    go u (inr different) = f.marks u ∙ sym (open_mark-fence t u l h different)
others_leave l h line Asserts other f = record { counts = f.counts; fronts = f.fronts; marks = f.marks }
