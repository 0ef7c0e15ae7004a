-- Numbers of stores, by line.
use Rattle.pmt_image.proofs.Prelude.{◌≡◌, ℕ, ◌≤◌, ◌⊎◌, ◌==◌, inl, inr, Bool, true, false, List, [], ◌∷◌, ◌++◌, map, Option, Some, None, refl, sym, ap, subst, ◌∙◌, arith, true≢false, if◌then◌else◌, ◌||◌, cases_eq, eq-eqb, ne_eqb, Act, Stores, Flushes, Clflushes, count, Vectors, Recording, history, count_at, has_line, with_line, front_at, InBox, AllByRecursion, box-ends, front-le-count, LineCount, line_count, LineStores, with_counts, persisted_entry, stored_entry, IsBetween}
use Rattle.pmt_explain.specs.Prelude.{lines_of, persisted_at}

-- the same counts before, the same after
pub counts-same : (xs : List LineStores) (v w : ℕ → ℕ) → ((l : ℕ) → v l ≡ w l) → (l : ℕ) → with_counts xs v l ≡ with_counts xs w l
counts-same [] v w same l = same l
counts-same (x ∷ xs) v w same l =
    counts-same xs (λ k. if x.line == k then x.stores else v k) (λ k. if x.line == k then x.stores else w k) (λ k. ap (λ n. if x.line == k then x.stores else n) (same k)) l

-- one of them is set, then the others
pub counts-next : (xs : List LineStores) (x : LineStores) (v w : ℕ → ℕ) → ((l : ℕ) → w l ≡ (if x.line == l then x.stores else v l)) → (l : ℕ) → with_counts xs w l ≡ with_counts (x ∷ xs) v l
counts-next xs x v w set l = counts-same xs w (λ k. if x.line == k then x.stores else v k) set l

-- the counts of lines that are all told
pub counts-listed : (entry : ℕ → LineStores) (v : ℕ → ℕ) (lines : List ℕ) (l : ℕ) → ((k : ℕ) → (entry k).line ≡ k) →
    with_counts (map entry lines) v l ≡ (if has_line l lines then (entry l).stores else v l)
counts-listed entry v [] l own = refl
counts-listed entry v (k ∷ ks) l own =
    counts-listed entry (λ j. if (entry k).line == j then (entry k).stores else v j) ks l own ∙ go (cases_eq k l) (has_line l ks)
  where
    both : (b : Bool) (x : ℕ) → (if b then x else x) ≡ x
    both true x = refl
    both false x = refl

    go : (k ≡ l) ⊎ (k ≡ l → ⊥) → (b : Bool) → (if b then (entry l).stores else if (entry k).line == l then (entry k).stores else v l) ≡ (if (k == l) || b then (entry l).stores else v l)
    go (inl same) b =
        let P : ℕ → Type 0 = λ j. (if b then (entry j).stores else if (entry k).line == j then (entry k).stores else v j) ≡ (if (k == j) || b then (entry j).stores else v j) in
        subst P same (rw (own k, eq-eqb k k refl) (both b (entry k).stores))
    go (inr other) b = rw (own k, ne_eqb k l other) refl

-- a line among others
pub has_line-append : (l : ℕ) (xs ys : List ℕ) → has_line l (xs ++ ys) ≡ has_line l xs || has_line l ys
has_line-append l [] ys = refl
has_line-append l (x ∷ xs) ys = go (x == l) (has_line-append l xs ys)
  where
    go : (b : Bool) → has_line l (xs ++ ys) ≡ has_line l xs || has_line l ys → b || has_line l (xs ++ ys) ≡ (b || has_line l xs) || has_line l ys
    go true rest = refl
    go false rest = rest

-- what is added is among them
pub added : (k : ℕ) (lines : List ℕ) → has_line k (with_line k lines) ≡ true
added k lines = go (has_line k lines) refl
  where
    either : (b : Bool) → b || ((k == k) || false) ≡ true
    either true = refl
    either false = rw (eq-eqb k k refl) refl

    go : (b : Bool) → has_line k lines ≡ b → has_line k (if b then lines else lines ++ k ∷ []) ≡ true
    go true is = is
    go false is = has_line-append k lines (k ∷ []) ∙ either (has_line k lines)

-- what is not among more is not among them
kept : (l k : ℕ) (lines : List ℕ) → has_line l (with_line k lines) ≡ false → has_line l lines ≡ false
kept l k lines none = go (has_line k lines) none
  where
    first : (b c : Bool) → b || c ≡ false → b ≡ false
    first true c h = h
    first false c h = refl

    go : (b : Bool) → has_line l (if b then lines else lines ++ k ∷ []) ≡ false → has_line l lines ≡ false
    go true h = h
    go false h = first (has_line l lines) (has_line l (k ∷ [])) (sym (has_line-append l lines (k ∷ [])) ∙ h)

-- a line that is not among those of a history has no stores
pub no_line-count : (l : ℕ) (h : List Act) → has_line l (lines_of h) ≡ false → count l h ≡ 0
no_line-count l [] none = refl
no_line-count l (Stores k w ∷ h) none = elim (cases_eq k l) [
  | inl same ↦ absurd (true≢false (sym (let P : ℕ → Type 0 = λ j. has_line j (with_line k (lines_of h)) ≡ true in subst P same (added k (lines_of h))) ∙ none))
  | inr other ↦ rw (ne_eqb k l other) (no_line-count l h (kept l k (lines_of h) none))
]
no_line-count l (Flushes t k ∷ h) none = no_line-count l h (kept l k (lines_of h) none)
no_line-count l (Clflushes k ∷ h) none = no_line-count l h (kept l k (lines_of h) none)
no_line-count l (a ∷ h) none = no_line-count l h none

-- ---- The counts of a crash

-- so the counts of all lines are those of the lines of the history, and the others are 0
listed-all : (entry : ℕ → LineStores) (h : List Act) (l : ℕ) → ((k : ℕ) → (entry k).line ≡ k) → ((k : ℕ) → (entry k).stores ≤ count k h) →
    with_counts (map entry (lines_of h)) (λ _. 0) l ≡ (entry l).stores
listed-all entry h l own few = counts-listed entry (λ _. 0) (lines_of h) l own ∙ go (has_line l (lines_of h)) refl
  where
    go : (b : Bool) → has_line l (lines_of h) ≡ b → (if b then (entry l).stores else 0) ≡ (entry l).stores
    go true is = refl
    go false is = let none = no_line-count l h is in let few_l = few l in omega arith

map-map : {A B C : Type 0} (g : B → C) (f : A → B) (xs : List A) → map g (map f xs) ≡ map (λ x. g (f x)) xs
map-map g f [] = refl
map-map g f (x ∷ xs) = ap (λ ys. g (f x) ∷ ys) (map-map g f xs)

-- what is safe, of each line
pub least-told : (T : Recording) (n l : ℕ) (lines : List LineCount) → lines ≡ map (line_count T n None) (lines_of (history T n)) → with_counts (map persisted_entry lines) (λ _. 0) l ≡ front_at T l n
least-told T n l lines is =
    ap (λ xs. with_counts (map persisted_entry xs) (λ _. 0) l) is
    ∙ ap (λ xs. with_counts xs (λ _. 0) l) (map-map persisted_entry (line_count T n None) (lines_of (history T n)))
    ∙ listed-all (λ k. persisted_entry (line_count T n None k)) (history T n) l (λ k. refl) (λ k. front-le-count k (history T n))

-- all stores, of each line
pub greatest-told : (T : Recording) (n l : ℕ) (lines : List LineCount) → lines ≡ map (line_count T n None) (lines_of (history T n)) → with_counts (map stored_entry lines) (λ _. 0) l ≡ count_at T l n
greatest-told T n l lines is =
    ap (λ xs. with_counts (map stored_entry xs) (λ _. 0) l) is
    ∙ ap (λ xs. with_counts xs (λ _. 0) l) (map-map stored_entry (line_count T n None) (lines_of (history T n)))
    ∙ listed-all (λ k. stored_entry (line_count T n None k)) (history T n) l (λ k. refl) (λ k. omega arith)

-- what the crash of a failure leaves
failure-few : (T : Recording) (n k : ℕ) (full : Option ℕ) → persisted_at T n full k ≤ count_at T k n
failure-few T n k None = front-le-count k (history T n)
failure-few T n k (Some f) = go (k == f)
  where
    go : (b : Bool) → (if b then count_at T k n else front_at T k n) ≤ count_at T k n
    go true = omega arith
    go false = front-le-count k (history T n)

pub failure-told : (T : Recording) (n l : ℕ) (full : Option ℕ) (lines : List LineCount) → lines ≡ map (line_count T n full) (lines_of (history T n)) →
    with_counts (map persisted_entry lines) (λ _. 0) l ≡ persisted_at T n full l
failure-told T n l full lines is =
    ap (λ xs. with_counts (map persisted_entry xs) (λ _. 0) l) is
    ∙ ap (λ xs. with_counts xs (λ _. 0) l) (map-map persisted_entry (line_count T n full) (lines_of (history T n)))
    ∙ listed-all (λ k. persisted_entry (line_count T n full k)) (history T n) l (λ k. refl) (λ k. failure-few T n k full)

-- ---- Within the bounds

-- counts in the box stay in it where counts between the bounds are set
pub box-with : (T : Recording) (n : ℕ) (asked : List LineStores) (v : ℕ → ℕ) → InBox (history T n) v → AllByRecursion (IsBetween (λ l. front_at T l n) (λ l. count_at T l n)) asked →
    InBox (history T n) (λ l. with_counts asked v l)
box-with T n [] v box all = box
box-with T n (x ∷ xs) v box all = box-with T n xs (λ k. if x.line == k then x.stores else v k) set all.1
  where
    set : InBox (history T n) (λ k. if x.line == k then x.stores else v k)
    set k = go (cases_eq x.line k)
      where
        go : (x.line ≡ k) ⊎ (x.line ≡ k → ⊥) → (front_at T k n ≤ (if x.line == k then x.stores else v k)) × ((if x.line == k then x.stores else v k) ≤ count_at T k n)
        go (inl same) =
            let P : ℕ → Type 0 = λ j. (front_at T j n ≤ (if x.line == j then x.stores else v j)) × ((if x.line == j then x.stores else v j) ≤ count_at T j n) in
            subst P same (rw (eq-eqb x.line x.line refl) all.0)
        go (inr other) = rw (ne_eqb x.line k other) (box k)

-- the counts at the start
pub box-base : (T : Recording) (n : ℕ) (all : Bool) → InBox (history T n) (λ l. if all then count_at T l n else front_at T l n)
box-base T n true l = (front-le-count l (history T n), omega arith)
box-base T n false l = (omega arith, front-le-count l (history T n))

-- counts in the box are those of a run's end
pub box-may : (T : Recording) (n : ℕ) (v w : ℕ → ℕ) → ((l : ℕ) → w l ≡ v l) → InBox (history T n) v → Vectors (history T n) w
box-may T n v w same box = let end = box-ends (history T n) v box in (end.0, end.1, λ l. end.2 l ∙ sym (same l))

-- those of a failure's crash
pub failure-box : (T : Recording) (n : ℕ) (full : Option ℕ) → InBox (history T n) (λ l. persisted_at T n full l)
failure-box T n None l = (omega arith, front-le-count l (history T n))
failure-box T n (Some f) l = go (l == f)
  where
    go : (b : Bool) → (front_at T l n ≤ (if b then count_at T l n else front_at T l n)) × ((if b then count_at T l n else front_at T l n) ≤ count_at T l n)
    go true = (front-le-count l (history T n), omega arith)
    go false = (omega arith, front-le-count l (history T n))

-- one of two numbers
pub chosen-first : (b : Bool) (x y : ℕ) → b ≡ true → x ≡ (if b then x else y)
chosen-first true x y is = refl
chosen-first false x y is = absurd (true≢false (sym is))

pub chosen-second : (b : Bool) (x y : ℕ) → b ≡ false → y ≡ (if b then x else y)
chosen-second true x y is = absurd (true≢false is)
chosen-second false x y is = refl

-- the bounds by other names
pub between-same : (a b c d : ℕ → ℕ) (asked : List LineStores) → ((l : ℕ) → a l ≡ c l) → ((l : ℕ) → b l ≡ d l) → AllByRecursion (IsBetween a b) asked → AllByRecursion (IsBetween c d) asked
between-same a b c d [] least greatest all = all
between-same a b c d (x ∷ xs) least greatest all =
    ((let low = least x.line in let first = all.0 in omega arith, let high = greatest x.line in let first = all.0 in omega arith), between-same a b c d xs least greatest all.1)
