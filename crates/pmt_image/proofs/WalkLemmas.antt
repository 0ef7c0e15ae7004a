-- From place to place.
use Rattle.pmt_image.proofs.Prelude.{◌≡◌, ℕ, ◌+◌, ◌-◌, ◌<◌, ◌≤◌, ◌⊎◌, inl, inr, Bool, true, false, List, [], ◌∷◌, ◌++◌, length, map, min, take, drop, refl, sym, ap, subst, ◌∙◌, arith, if◌then◌else◌, nat_lt, cases_lt, lt-ltb, le-ltb, filter-append, Act, Vectors, count, Recording, count_at, history, front, front_at, AllByRecursion, filter, LineStores, StoreSpan, with_counts, IsOffBy, IsNear, AreNear, left_by_all, exposed_by}
use Rattle.std.proofs.Math.Seq.{take-add}
use Rattle.pmt_image.specs.declared.near.NearCrashes.{NearCrashes}
use Rattle.pmt_explain.proofs.CrashLemmas.{history-min}

-- what passes at a later place passed before
filter-later : (n m : ℕ) (xs : List StoreSpan) → n ≤ m → filter (λ x. nat_lt m x.safe) (filter (λ x. nat_lt n x.safe) xs) ≡ filter (λ x. nat_lt m x.safe) xs
filter-later n m [] later = refl
filter-later n m (x ∷ xs) later = go (cases_lt n x.safe) (filter-later n m xs later)
  where
    go : (n < x.safe) ⊎ (x.safe ≤ n) → filter (λ y. nat_lt m y.safe) (filter (λ y. nat_lt n y.safe) xs) ≡ filter (λ y. nat_lt m y.safe) xs →
        filter (λ y. nat_lt m y.safe) (if nat_lt n x.safe then x ∷ filter (λ y. nat_lt n y.safe) xs else filter (λ y. nat_lt n y.safe) xs) ≡ (if nat_lt m x.safe then x ∷ filter (λ y. nat_lt m y.safe) xs else filter (λ y. nat_lt m y.safe) xs)
    go (inl before) rest = rw (lt-ltb n x.safe before) (ap (λ (ys : List StoreSpan). if nat_lt m x.safe then x ∷ ys else ys) rest)
    go (inr upto) rest = rw (le-ltb n x.safe upto, le-ltb m x.safe (omega (arith, upto, later))) rest

-- the stores at a place, from those at an earlier one and the events between
pub exposed-later : (spans old new : List StoreSpan) (n m : ℕ) → n ≤ m → old ≡ exposed_by spans n → new ≡ filter (λ x. nat_lt m x.safe) (old ++ take (m - n) (drop n spans)) → new ≡ exposed_by spans m
exposed-later spans old new n m later before is =
    let sum : n + (m - n) ≡ m = omega (arith, later) in
    is ∙ ap (λ (ys : List StoreSpan). filter (λ x. nat_lt m x.safe) (ys ++ take (m - n) (drop n spans))) before
    ∙ filter-append (λ (x : StoreSpan). nat_lt m x.safe) (exposed_by spans n) (take (m - n) (drop n spans))
    ∙ ap (λ (ys : List StoreSpan). ys ++ filter (λ x. nat_lt m x.safe) (take (m - n) (drop n spans))) (filter-later n m (take n spans) later)
    ∙ sym (filter-append (λ (x : StoreSpan). nat_lt m x.safe) (take n spans) (take (m - n) (drop n spans)))
    ∙ ap (λ (ys : List StoreSpan). filter (λ x. nat_lt m x.safe) ys) (sym (take-add n (m - n) spans))
    ∙ ap (λ (k : ℕ). exposed-to-place spans m k) sum
  where
    exposed-to-place : List StoreSpan → ℕ → ℕ → List StoreSpan
    exposed-to-place ys p k = filter (λ x. nat_lt p x.safe) (take k ys)

-- ---- A place past the end

off-same : (k : ℕ) (v base other : ℕ → ℕ) → ((l : ℕ) → base l ≡ other l) → IsOffBy k base v → IsOffBy k other v
off-same k v base other same x = record { lines = x.lines; few = x.few; others = λ l none. x.others l none ∙ same l }

near-same : (T : Recording) (n m k : ℕ) (v : ℕ → ℕ) → history T n ≡ history T m → IsNear T n k v → IsNear T m k v
near-same T n m k v same x = record { may = subst (λ (h : List Act). Vectors h v) same x.may; near = go x.near }
  where
    go : IsOffBy k (λ l. front_at T l n) v ⊎ IsOffBy k (λ l. count_at T l n) v → IsOffBy k (λ l. front_at T l m) v ⊎ IsOffBy k (λ l. count_at T l m) v
    go (inl off) = inl (off-same k v _ _ (λ l. ap (λ (h : List Act). front l h) same) off)
    go (inr off) = inr (off-same k v _ _ (λ l. ap (λ (h : List Act). count l h) same) off)

each-same : (T : Recording) (n m k : ℕ) (list : List (ℕ → ℕ)) → history T n ≡ history T m → AllByRecursion (IsNear T n k) list → AllByRecursion (IsNear T m k) list
each-same T n m k [] same all = tt
each-same T n m k (v ∷ vs) same all = (near-same T n m k v same all.0, each-same T n m k vs same all.1)

-- what crashes leave after a history
abbrev left_after : List Act → Bool → List (List LineStores) → List (ℕ → ℕ)
left_after h all choices = map (λ lines. λ l. with_counts lines (λ k. if all then count k h else front k h) l) choices

abbrev left_after_all : List Act → NearCrashes → List (ℕ → ℕ)
left_after_all h crashes = left_after h false (map (λ lines. lines.items) crashes.off_fronts.items) ++ left_after h true (map (λ lines. lines.items) crashes.off_counts.items)

pub near-past : (T : Recording) (n k : ℕ) (crashes : NearCrashes) → AreNear T (min n (length T.events)) k (left_by_all T (min n (length T.events)) crashes) → AreNear T n k (left_by_all T n crashes)
near-past T n k crashes x =
    let same = history-min T n in
    subst (λ (list : List (ℕ → ℕ)). AreNear T n k list) (ap (λ (h : List Act). left_after_all h crashes) same) (record {
      each = each-same T _ n k _ same x.each;
      whole = λ v near. x.whole v (near-same T n _ k v (sym same) near);
      once = x.once;
    })
