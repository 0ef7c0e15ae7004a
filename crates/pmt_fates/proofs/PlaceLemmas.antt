-- What places have, all together.
use Rattle.pmt_fates.proofs.Prelude.{◌≡◌, ℕ, zero, suc, ◌+◌, ◌<◌, ◌≤◌, ◌⊎◌, inl, inr, Bool, true, false, cond, List, [], ◌∷◌, ◌++◌, length, map, Option, None, refl, ap, ◌∙◌, arith, if◌then◌else◌, nat_lt, nat_le, slice_get, cases_lt, All-from_recursion, All-permutation, sum_by-IsPermutation, sum_by-cons, sum_by_push, slice_get_past, Op, Store, Sfence, Mfence, IsPersist, IsOrderedBefore, Recording, event, AllByRecursion, count_by, sum_by, event-some, event-none, Picks, AreGroups, Origin, Group, Keyed, IsIn, Tells, Fate, PlaceRow, SavedBefore, AreFates, fence_fate, flush_fate, op_fate, AddUp, ArePlaces, count_in, fate_at, is_fence_fate, is_flush_fate, is_in_time, is_same, is_store_fate, origin_in, place_items, row_in}
use Rattle.pmt_causes.specs.Late.{counted, is_fence, is_flush, is_store, op_passes}
use Rattle.pmt_causes.proofs.CountedLemmas.{counted-same}
use Rattle.pmt_fates.specs.declared.fate.Fate.TheVariants as fate

-- what is counted in a list
abbrev one : Bool → ℕ
one b = cond b 1 0

count-cons : (P : ℕ → Bool) (x : ℕ) (xs : List ℕ) → count_by P (x ∷ xs) ≡ one (P x) + count_by P xs
count-cons P x xs = sum_by-cons (λ y. cond (P y) 1 0) x xs

abbrev pub numbers : List (Keyed Origin) → List ℕ
numbers xs = map (λ (x : Keyed Origin). x.number) xs

pub numbers-more : (xs : List (Keyed Origin)) (x : Keyed Origin) → numbers (xs ++ x ∷ []) ≡ numbers xs ++ x.number ∷ []
numbers-more [] x = refl
numbers-more (y ∷ xs) x = ap (λ ns. y.number ∷ ns) (numbers-more xs x)

-- those in a group, and those that are left
split : (g : Group Origin) (P : ℕ → Bool) (xs ms os : List (Keyed Origin)) → Picks (IsIn g) xs ms → Picks (λ x. ¬ IsIn g x) xs os →
    count_by P (numbers xs) ≡ count_by P (numbers ms) + count_by P (numbers os)
split g P [] ms os none left = rw (none, left) refl
split g P (x ∷ xs) ms os (inl (own, (zs, is, rest))) (inl (other, more)) = absurd (other own)
split g P (x ∷ xs) ms os (inl (own, (zs, is, rest))) (inr (apart, more)) =
    rw is (omega (arith, count-cons P x.number (numbers xs), count-cons P x.number (numbers zs), split g P xs zs os rest more))
split g P (x ∷ xs) ms os (inr (other, rest)) (inl (apart, (zs, is, more))) =
    rw is (omega (arith, count-cons P x.number (numbers xs), count-cons P x.number (numbers zs), split g P xs ms zs rest more))
split g P (x ∷ xs) ms os (inr (other, rest)) (inr (apart, more)) = absurd (apart other)

groups-sum : (P : ℕ → Bool) (xs : List (Keyed Origin)) (gs : List (Group Origin)) → AreGroups IsIn Tells xs gs → sum_by (λ (g : Group Origin). count_by P g.members.items) gs ≡ count_by P (numbers xs)
groups-sum P xs [] none = rw none refl
groups-sum P xs (g ∷ gs) (others, own, rest) =
    omega (
      arith,
      sum_by-cons (λ (h : Group Origin). count_by P h.members.items) g gs,
      ap (count_by P) own.told,
      split g P xs own.members others own.picked own.left,
      groups-sum P others gs rest,
    )

sum-map : {X : Type 0} (f : PlaceRow → ℕ) (h : X → PlaceRow) (xs : List X) → sum_by f (map h xs) ≡ sum_by (λ x. f (h x)) xs
sum-map f h [] = refl
sum-map f h (x ∷ xs) = omega (arith, sum_by-cons f (h x) (map h xs), sum_by-cons (λ y. f (h y)) x xs, sum-map f h xs)

items-count : (T : Recording) (labels : List (Option ℕ)) (P : ℕ → Bool) (n : ℕ) → count_by P (numbers (place_items T labels n)) ≡ counted P n
items-count T labels P zero = refl
items-count T labels P (suc n) =
    let x : Keyed Origin = record { key = origin_in labels (suc n) (event T (suc n)); number = suc n } in
    omega (
      arith,
      ap (count_by P) (numbers-more (place_items T labels n) x),
      sum_by_push (λ (y : ℕ). cond (P y) 1 0) (numbers (place_items T labels n)) (suc n),
      items-count T labels P n,
    )

-- the stores, the flushes and the fences by what becomes of them
four : (a b c d : Bool) → is_store_fate (if a then fate.Lost else if b then fate.Ignored else if c then fate.Late else if d then fate.Left else fate.InTime) ≡ true
four true b c d = refl
four false true c d = refl
four false false true d = refl
four false false false true = refl
four false false false false = refl

four-flush : (a b c d : Bool) → is_flush_fate (if a then fate.Lost else if b then fate.Ignored else if c then fate.Late else if d then fate.Left else fate.InTime) ≡ false
four-flush true b c d = refl
four-flush false true c d = refl
four-flush false false true d = refl
four-flush false false false true = refl
four-flush false false false false = refl

four-fence : (a b c d : Bool) → is_fence_fate (if a then fate.Lost else if b then fate.Ignored else if c then fate.Late else if d then fate.Left else fate.InTime) ≡ false
four-fence true b c d = refl
four-fence false true c d = refl
four-fence false false true d = refl
four-fence false false false true = refl
four-fence false false false false = refl

flushes : (b : Bool) → (is_store_fate (flush_fate b) ≡ false) × (is_flush_fate (flush_fate b) ≡ true) × (is_fence_fate (flush_fate b) ≡ false)
flushes true = (refl, refl, refl)
flushes false = (refl, refl, refl)

fences : (b : Bool) → (is_store_fate (fence_fate b) ≡ false) × (is_flush_fate (fence_fate b) ≡ false) × (is_fence_fate (fence_fate b) ≡ true)
fences true = (refl, refl, refl)
fences false = (refl, refl, refl)

abbrev IsKind : Op → Fate → Type 0
IsKind o f = (is_store_fate f ≡ is_store o) × (is_flush_fate f ≡ is_flush o) × (is_fence_fate f ≡ is_fence o)

kind : (o : Op) (a b : Bool) (n s w : ℕ) → IsKind o (op_fate o a b n s w)
kind (Store v) a b n s w = (
  four a (nat_lt n s) (nat_le 2 w) (nat_le 1 w),
  four-flush a (nat_lt n s) (nat_le 2 w) (nat_le 1 w),
  four-fence a (nat_lt n s) (nat_le 2 w) (nat_le 1 w),
)
kind Sfence a b n s w = fences b
kind Mfence a b n s w = fences b
kind (IsPersist r) a b n s w = (refl, refl, refl)
kind (IsOrderedBefore r q) a b n s w = (refl, refl, refl)
kind o a b n s w = flushes b

abbrev AreAlike : Recording → List Fate → ℕ → Type 0
AreAlike T fates i =
    (is_store_fate (fate_at fates i) ≡ op_passes is_store (event T i)) × (is_flush_fate (fate_at fates i) ≡ op_passes is_flush (event T i)) × (is_fence_fate (fate_at fates i) ≡ op_passes is_fence (event T i))

alike : (T : Recording) (told dropped : List ℕ) (fates : List Fate) → AreFates T told dropped fates → (i : ℕ) → AreAlike T fates i
alike T told dropped fates x zero = (refl, refl, refl)
alike T told dropped fates x (suc n) = go (cases_lt n (length T.events))
  where
    go : (n < length T.events) ⊎ (length T.events ≤ n) → AreAlike T fates (suc n)
    go (inl within) =
        let e = event-some T n within in
        let at = x.each n e.0 e.1 in
        let k = kind e.0.op _ _ (length T.events) _ _ in
        rw (e.1, at) k
    go (inr past) =
        let none = event-none T n past in
        let empty : slice_get fates n ≡ None = slice_get_past fates n (omega (arith, x.size)) in
        rw (none, empty) (refl, refl, refl)

-- a store has one fate
fate-one : (f : Fate) → one (is_store_fate f) ≡ one (is_same fate.Lost f) + one (is_same fate.Ignored f) + one (is_same fate.Late f) + one (is_in_time f)
fate-one fate.Lost = refl
fate-one f = refl

fates-one : (fates : List Fate) (ms : List ℕ) →
    count_in fates is_store_fate ms ≡ count_in fates (is_same fate.Lost) ms + count_in fates (is_same fate.Ignored) ms + count_in fates (is_same fate.Late) ms + count_in fates is_in_time ms
fates-one fates [] = refl
fates-one fates (i ∷ ms) =
    let step : (is : Fate → Bool) → count_in fates is (i ∷ ms) ≡ one (is (fate_at fates i)) + count_in fates is ms = λ is. count-cons (λ (j : ℕ). is (fate_at fates j)) i ms in
    omega (
      arith,
      step is_store_fate,
      step (is_same fate.Lost),
      step (is_same fate.Ignored),
      step (is_same fate.Late),
      step is_in_time,
      fate-one (fate_at fates i),
      fates-one fates ms,
    )

abbrev HasFates : PlaceRow → Type 0
HasFates r = r.stores ≡ r.lost + r.ignored + r.late + r.in_time

rows-fates : (fates : List Fate) (saved : ℕ → Option SavedBefore) (gs : List (Group Origin)) → AllByRecursion HasFates (map (row_in fates saved) gs)
rows-fates fates saved [] = tt
rows-fates fates saved (g ∷ gs) = (fates-one fates g.members.items, rows-fates fates saved gs)

-- what all places have together
pub added : (T : Recording) (labels : List (Option ℕ)) (told dropped : List ℕ) (rows : List PlaceRow) → ArePlaces T labels told dropped rows → AddUp T rows
added T labels told dropped rows x = record {
  fates = All-permutation HasFates (map (row_in x.fates x.saved) x.groups) rows x.in_order.same (All-from_recursion HasFates (map (row_in x.fates x.saved) x.groups) (rows-fates x.fates x.saved x.groups));
  stores = total (λ (r : PlaceRow). r.stores) is_store_fate is_store (λ g. refl) (λ i. (alike T told dropped x.fates x.are_fates i).0);
  flushes = total (λ (r : PlaceRow). r.flushes) is_flush_fate is_flush (λ g. refl) (λ i. (alike T told dropped x.fates x.are_fates i).1);
  fences = total (λ (r : PlaceRow). r.fences) is_fence_fate is_fence (λ g. refl) (λ i. (alike T told dropped x.fates x.are_fates i).2);
}
  where
    total : (field : PlaceRow → ℕ) (is : Fate → Bool) (of : Op → Bool) → ((g : Group Origin) → field (row_in x.fates x.saved g) ≡ count_in x.fates is g.members.items) →
        ((i : ℕ) → is (fate_at x.fates i) ≡ op_passes of (event T i)) → sum_by field rows ≡ counted (λ i. op_passes of (event T i)) (length T.events)
    total field is of own same =
        let P : ℕ → Bool = λ i. is (fate_at x.fates i) in
        let F : Group Origin → ℕ = λ g. count_by P g.members.items in
        sum_by-IsPermutation field (map (row_in x.fates x.saved) x.groups) rows x.in_order.same
        ∙ sum-map field (row_in x.fates x.saved) x.groups
        ∙ sum-same (λ g. field (row_in x.fates x.saved g)) F own x.groups
        ∙ sum_by-IsPermutation F x.grouped.by_first x.groups x.grouped.same
        ∙ groups-sum P (place_items T labels (length T.events)) x.grouped.by_first x.grouped.partition
        ∙ items-count T labels P (length T.events)
        ∙ counted-same P (λ i. op_passes of (event T i)) (length T.events) same
      where
        sum-same : (f h : Group Origin → ℕ) → ((g : Group Origin) → f g ≡ h g) → (gs : List (Group Origin)) → sum_by f gs ≡ sum_by h gs
        sum-same f h same [] = refl
        sum-same f h same (g ∷ gs) = omega (arith, sum_by-cons f g gs, sum_by-cons h g gs, same g, sum-same f h same gs)
