-- The tables of the lines, and the lines that have none.
use Rattle.std.proofs.Common.{◌≡◌, ◌≢◌, ℕ, zero, suc, ◌+◌, ◌<◌, ◌⊎◌, inl, inr, Bool, true, false, cond, List, [], ◌∷◌, ◌++◌, length, get_or, map, Option, Some, None, refl, sym, ap, subst, ◌∙◌, length-append, arith}
use Rattle.std.specs.Prelude.{All, Contains, if◌then◌else◌, ◌==◌, nat_eq}
use Rattle.std.proofs.lemmas.Bool.{cases_eq, cases_lt, cases_Bool, eq-eqb, ne_eqb}
use Rattle.std.proofs.lemmas.Option.{same_Some}
use Rattle.std.proofs.lemmas.List.Elements.{All-push, All-from_recursion, All-contains}
use Rattle.pmt_laws.specs.Prelude.{line_of, Act, Stores, Flushes, Clflushes, Fences, Asserts, count, Recording, IsTrace, history, count_at, lines_of, has_line, with_line}
use Rattle.pmt_lines.specs.Jobs.{LineFound, IsJob}
use Rattle.pmt_asserts.specs.Tables.{found_line, AreResultsOf, IsUnwritten, IsPlacing}
use Rattle.pmt_asserts.proofs.LastLemmas.{LastIs, NoLast, LastAt, last-is}

-- an element that stays, and the one that is added
pub pushed-before : {X : Type 0} (xs : List X) (x d : X) (k : ℕ) → k < length xs → get_or (xs ++ x ∷ []) k d ≡ get_or xs k d
pushed-before [] x d k h = absurd (omega arith)
pushed-before (y ∷ xs) x d zero h = refl
pushed-before (y ∷ xs) x d (suc k) h = pushed-before xs x d k (omega arith)

pub pushed-last : {X : Type 0} (xs : List X) (x d : X) → get_or (xs ++ x ∷ []) (length xs) d ≡ x
pushed-last [] x d = refl
pushed-last (y ∷ xs) x d = pushed-last xs x d

-- one more result
pub placing-more :
    (results : List LineFound) (old new : ℕ → Option ℕ) (x : LineFound) → IsPlacing results old →
    ((q : ℕ) → new q ≡ cond (nat_eq x.job.line q) (Some (length results)) (old q)) → IsPlacing (results ++ x ∷ []) new
placing-more results old new x is updated = record { found = λ l k e. at (cases_eq x.job.line l) e; all = λ l none. past (cases_eq x.job.line l) none }
  where
    longer : length (results ++ x ∷ []) ≡ length results + 1
    longer = length-append results (x ∷ [])

    at : {l k : ℕ} → (x.job.line ≡ l) ⊎ (x.job.line ≡ l → ⊥) → new l ≡ Some k → (k < length (results ++ x ∷ [])) × ((d : LineFound) → (get_or (results ++ x ∷ []) k d).job.line ≡ l)
    at {l} {k} (inl same) e =
        let t = eq-eqb x.job.line l same in
        let there : new l ≡ Some (length results) = updated l ∙ ap (λ b. cond b (Some (length results)) (old l)) t in
        let k' : length results ≡ k = same_Some (length results) k (sym there ∙ e) in
        (omega (arith, longer, k'), λ d. ap (λ n. (get_or (results ++ x ∷ []) n d).job.line) (sym k') ∙ ap found_line (pushed-last results x d) ∙ same)
    at {l} {k} (inr other) e =
        let t = ne_eqb x.job.line l other in
        let there : old l ≡ Some k = sym (updated l ∙ ap (λ b. cond b (Some (length results)) (old l)) t) ∙ e in
        let f = is.found l k there in
        (omega (arith, longer, f.0), λ d. ap found_line (pushed-before results x d k f.0) ∙ f.1 d)

    past : {l : ℕ} → (x.job.line ≡ l) ⊎ (x.job.line ≡ l → ⊥) → new l ≡ None → All (λ r. r.job.line ≢ l) (results ++ x ∷ [])
    past {l} (inl same) e =
        let t = eq-eqb x.job.line l same in
        let never : Some (length results) ≡ None = sym (updated l ∙ ap (λ b. cond b (Some (length results)) (old l)) t) ∙ e in
        cc
    past {l} (inr other) e =
        let t = ne_eqb x.job.line l other in
        let there : old l ≡ None = sym (updated l ∙ ap (λ b. cond b (Some (length results)) (old l)) t) ∙ e in
        All-push (λ (r : LineFound). r.job.line ≢ l) results x (is.all l there) other

-- a line is in a list with one more
has-with : (l k : ℕ) (ks : List ℕ) → has_line l ks ≡ true → has_line l (with_line k ks) ≡ true
has-with l k ks h = go (has_line k ks)
  where
    append : (xs : List ℕ) → has_line l xs ≡ true → has_line l (xs ++ k ∷ []) ≡ true
    append [] g = let never : false ≡ true = g in cc
    append (x ∷ xs) g = elim (cases_Bool (x == l)) [ inl t ↦ rw t refl | inr f ↦ rw f (append xs (rw f at g)) ]

    go : (b : Bool) → has_line l (if b then ks else ks ++ k ∷ []) ≡ true
    go true = h
    go false = append ks h

has-own : (l : ℕ) (ks : List ℕ) → has_line l (with_line l ks) ≡ true
has-own l ks = go (has_line l ks) refl
  where
    append : (xs : List ℕ) → has_line l (xs ++ l ∷ []) ≡ true
    append [] = rw (eq-eqb l l refl) refl
    append (x ∷ xs) = elim (cases_Bool (x == l)) [ inl t ↦ rw t refl | inr f ↦ rw f (append xs) ]

    go : (b : Bool) → has_line l ks ≡ b → has_line l (if b then ks else ks ++ l ∷ []) ≡ true
    go true e = e
    go false e = append ks

-- a line with stores is one of the lines
stored-has : (l : ℕ) (h : List Act) → 0 < count l h → has_line l (lines_of h) ≡ true
stored-has l [] some = absurd (omega arith)
stored-has l (Stores k w ∷ h) some =
    elim (cases_eq k l) [
      | inl same ↦ subst (λ j. has_line l (with_line j (lines_of h)) ≡ true) (sym same) (has-own l (lines_of h))
      | inr other ↦ has-with l k (lines_of h) (stored-has l h (rw (ne_eqb k l other) at some))
    ]
stored-has l (Flushes t k ∷ h) some = has-with l k (lines_of h) (stored-has l h some)
stored-has l (Clflushes k ∷ h) some = has-with l k (lines_of h) (stored-has l h some)
stored-has l (Fences t ∷ h) some = stored-has l h some
stored-has l (Asserts ∷ h) some = stored-has l h some

-- a line without result is none of them
none-has : (l : ℕ) (results : List LineFound) → All (λ r. r.job.line ≢ l) results → has_line l (map found_line results) ≡ true → ⊥
none-has l [] none h = let never : false ≡ true = h in cc
none-has l (r ∷ results) none h = none-has l results (λ k d within. none (suc k) d (omega arith)) (rw (ne_eqb r.job.line l (none 0 r (omega arith))) at h)

-- no byte of a line without result is written
pub unwritten-line : (T : Recording) (l : ℕ) (results : List LineFound) (i b : ℕ) → IsTrace T → AreResultsOf T results → All (λ r. r.job.line ≢ l) results → line_of T.format b ≡ l → IsUnwritten T i b
unwritten-line T l results i b trace are none in_line = go (last-is T l [] b i trace counted in_line)
  where
    counted : count_at T l (length T.events) ≡ 0
    counted =
        elim (cases_lt 0 (count_at T l (length T.events))) [
          | inl some ↦ absurd (none-has l results none (subst (λ ks. has_line l ks ≡ true) (sym are.covering) (stored-has l (history T (length T.events)) some)))
          | inr zero' ↦ omega arith
        ]

    go : LastIs T l [] b i (count_at T l i) (history T i) → IsUnwritten T i b
    go (NoLast unwritten rank) = unwritten
    go (LastAt r some rank within below by_now past) = absurd (omega arith)

-- a result among them is of its job
pub of-job : (T : Recording) (results : List LineFound) (found : LineFound) → AreResultsOf T results → Contains results found → IsJob T found.job
of-job T results found are c = All-contains of results found (All-from_recursion of results are.jobs) c
  where
    of : LineFound → Type 0
    of found = IsJob T found.job
