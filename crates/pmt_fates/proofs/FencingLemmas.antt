-- The flushes that wait for fences, event by event.
use Rattle.pmt_fates.proofs.Prelude.{◌≡◌, ◌≢◌, ℕ, suc, ◌+◌, ◌*◌, ◌<◌, ◌≤◌, ◌⊎◌, inl, inr, Bool, true, false, ◌==◌, not, cond, List, [], ◌∷◌, length, set, refl, sym, ap, subst, ◌∙◌, arith, if◌then◌else◌, nat_lt, slice_index, cases_eq, eq-eqb, ne_eqb, get_or-set_same, get_or-set_other, length-take, count_by-le-length, sum_by-cons, take_while-cons, Event, event_limit, count_by, prefix_len, sum, take_while, FenceSizes, AreSizes, bar_of, fence_sizes, is_fence, is_fence_of, is_flush_of, waiting, with_size}
use Rattle.std.proofs.lemmas.Bool.Decides.{nat_tests}

-- one more event
pub waiting-next : (t : ℕ) (e : Event) (past : List Event) → waiting t (e ∷ past) ≡ cond (is_fence_of t e) 0 (cond (is_flush_of t e) 1 0 + waiting t past)
waiting-next t e past = ap (count_by (is_flush_of t)) (take_while-cons (λ (x : Event). not (is_fence_of t x)) e past) ∙ go (is_fence_of t e)
  where
    rest : List Event
    rest = take_while (λ (x : Event). not (is_fence_of t x)) past

    go : (b : Bool) → count_by (is_flush_of t) (cond (not b) (e ∷ rest) []) ≡ cond b 0 (cond (is_flush_of t e) 1 0 + count_by (is_flush_of t) rest)
    go true = refl
    go false = sum_by-cons (λ (x : Event). cond (is_flush_of t x) 1 0) e rest

pub waiting-le : (t : ℕ) (past : List Event) → waiting t past ≤ length past
waiting-le t past =
    let stops : Event → Bool = λ (x : Event). not (is_fence_of t x) in
    omega (arith, count_by-le-length (is_flush_of t) (take_while stops past), length-take (prefix_len stops past) past)

-- there are no more sizes than events, and none is greater than their number
pub sizes-le : (past : List Event) → length (fence_sizes past) ≤ length past
sizes-le [] = omega arith
sizes-le (e ∷ past) = go (is_fence e) (sizes-le past)
  where
    go : (b : Bool) → length (fence_sizes past) ≤ length past → length (if b then waiting e.thread past ∷ fence_sizes past else fence_sizes past) ≤ suc (length past)
    go true rest = omega (arith, rest)
    go false rest = omega (arith, rest)

pub sum-le : (past : List Event) → length past ≤ event_limit → sum (fence_sizes past) ≤ length past * event_limit
sum-le [] short = omega arith
sum-le (e ∷ past) short = go (is_fence e) (sum-le past (omega arith))
  where
    go : (b : Bool) → sum (fence_sizes past) ≤ length past * event_limit → sum (if b then waiting e.thread past ∷ fence_sizes past else fence_sizes past) ≤ suc (length past) * event_limit
    go true rest = omega (arith, rest, sum_by-cons (λ (n : ℕ). n) (waiting e.thread past) (fence_sizes past), waiting-le e.thread past, short)
    go false rest = omega (arith, rest)

pub bar-within : (n : ℕ) → bar_of n < 7
bar-within n = grind (arith, nat_tests)

-- one more size
pub sizes-next : (n : ℕ) (sizes : List ℕ) (z : FenceSizes) → length z.bars ≡ 7 → AreSizes sizes z → AreSizes (n ∷ sizes) (with_size n z)
sizes-next n sizes z size are = record {
  bars = λ b below. bars b below (cases_eq b (bar_of n));
  most = ap (λ m. if nat_lt m n then n else m) are.most;
  flushes = ap (λ m. m + n) are.flushes ∙ turn ∙ sym (sum_by-cons (λ (m : ℕ). m) n sizes);
}
  where
    turn : sum sizes + n ≡ n + sum sizes
    turn = omega arith

    new : ℕ
    new = slice_index z.bars (bar_of n) + 1

    bars : (b : ℕ) → b < 7 → (b ≡ bar_of n) ⊎ (b ≢ bar_of n) → slice_index (set z.bars (bar_of n) new) b ≡ count_by (λ m. bar_of m == b) (n ∷ sizes)
    bars b below (inl same) =
        let own : (bar_of n == b) ≡ true = eq-eqb (bar_of n) b (sym same) in
        let here : slice_index (set z.bars (bar_of n) new) b ≡ new = subst (λ k. slice_index (set z.bars (bar_of n) new) k ≡ new) (sym same) (get_or-set_same z.bars (bar_of n) new 0 (omega (arith, size, bar-within n))) in
        let old : slice_index z.bars (bar_of n) ≡ count_by (λ m. bar_of m == b) sizes = ap (slice_index z.bars) (sym same) ∙ are.bars b below in
        let one : ◌≡◌ {A = ℕ} (cond (bar_of n == b) 1 0) 1 = ap (λ t. cond t 1 0) own in
        omega (arith, here, old, one, sum_by-cons (λ m. cond (bar_of m == b) 1 0) n sizes)
    bars b below (inr apart) =
        let other : (bar_of n == b) ≡ false = ne_eqb (bar_of n) b (λ e. apart (sym e)) in
        let here : slice_index (set z.bars (bar_of n) new) b ≡ slice_index z.bars b = get_or-set_other z.bars (bar_of n) b new 0 apart in
        let none : ◌≡◌ {A = ℕ} (cond (bar_of n == b) 1 0) 0 = ap (λ t. cond t 1 0) other in
        omega (arith, here, none, are.bars b below, sum_by-cons (λ m. cond (bar_of m == b) 1 0) n sizes)
