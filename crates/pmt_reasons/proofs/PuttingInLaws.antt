-- A mend can be put in at each place between the two events that it names.
use Rattle.std.proofs.Common.{◌≡◌, ℕ, zero, suc, ◌<◌, ◌≤◌, ◌⊎◌, inl, inr, List, [], ◌∷◌, length, Option, None, Some, refl, sym, ap, subst, ◌∙◌, arith, true≢false}
use Rattle.std.specs.Prelude.{slice_get, MatchOption}
use Rattle.std.proofs.lemmas.Bool.{cases_lt}
use Rattle.std.proofs.lemmas.Bool.Decides.{nat_tests}
use Rattle.std.proofs.lemmas.Option.{none-some, same_Some}
use Rattle.pmt_laws.specs.Prelude.{Event, Act, Flushes, Fences, Recording, IsAct, act, event}
use Rattle.pmt_laws.proofs.Histories.{event-within}
use Rattle.pmt_reasons.specs.Mends.{HasEvents, number_or_end, IsFlushedBetween, with_at, without_at, put_in, number_after, put_in_both, number_after_both, put_first, number_first, IsPlaceBetween, FenceCanBePutIn, FlushAndFenceCanBePutIn, StoreCanBePutFirst, FlushedStoreCanBePutFirst}

-- ---- Events with one more

with-low : (p j : ℕ) (e : Event) (es : List Event) → j < p → p ≤ length es → slice_get (with_at p e es) j ≡ slice_get es j
with-low (suc p) zero e (d ∷ es) low within = refl
with-low (suc p) (suc j) e (d ∷ es) low within = with-low p j e es (omega arith) (omega arith)
with-low a j e b low within = absurd (omega arith)

with-here : (p : ℕ) (e : Event) (es : List Event) → p ≤ length es → slice_get (with_at p e es) p ≡ Some e
with-here zero e es within = refl
with-here (suc p) e [] within = absurd (omega arith)
with-here (suc p) e (d ∷ es) within = with-here p e es (omega arith)

with-high : (p j : ℕ) (e : Event) (es : List Event) → p ≤ j → slice_get (with_at p e es) (suc j) ≡ slice_get es j
with-high (suc p) zero e es high = absurd (omega arith)
with-high (suc p) (suc j) e (d ∷ es) high = with-high p j e es (omega arith)
with-high a b e c high = refl

pub with-length : (p : ℕ) (e : Event) (es : List Event) → length (with_at p e es) ≡ suc (length es)
with-length (suc p) e (d ∷ es) = ap suc (with-length p e es)
with-length a e b = refl

number-low : (p i : ℕ) → i ≤ p → number_after p i ≡ i
number-low p i low = grind (arith, nat_tests)

number-high : (p i : ℕ) → p < i → number_after p i ≡ suc i
number-high p i high = grind (arith, nat_tests)

number-rises : (p i j : ℕ) → i < j → number_after p i < number_after p j
number-rises p i j less = grind (arith, nat_tests)

-- ---- A trace with one more event

put-events : (T : Recording) (p : ℕ) (e : Event) → p ≤ length T.events → HasEvents T (put_in T p e) (number_after p)
put-events T p e within h a is = grind (arith, nat_tests, none-some, cases_lt, with-high, number-high, with-low, number-low)

put-act : (T : Recording) (p : ℕ) (e : Event) (a : Act) → p ≤ length T.events → act T.format e ≡ a → IsAct (put_in T p e) (suc p) a
put-act T p e a within is = (e, with-here p e T.events within, is)

-- what is put in comes before the event, or before the end
put-before : (T : Recording) (p : ℕ) (e : Event) (before : Option ℕ) → p ≤ length T.events → MatchOption before (Unit {0}) (λ (b : ℕ). p < b) →
    suc p < number_or_end (put_in T p e) (number_after p) before
put-before T p e None within ahead = omega (arith, with-length p e T.events)
put-before T p e (Some b) within ahead = omega (arith, number-high p b ahead)

pub fence_can_be_put_in : FenceCanBePutIn
fence_can_be_put_in T thread after p before fence is place = (
  put-events T p fence place.within,
  λ i j one two less. number-rises p i j less,
  record {
    fence = suc p;
    is_fence = put-act T p fence (Fences thread) place.within is;
    after = omega (arith, number-low p after place.behind, place.behind);
    before = put-before T p fence before place.within place.ahead;
  },
)

-- ---- A trace with two more

both-before : (T : Recording) (p : ℕ) (flush fence : Event) (before : Option ℕ) → p ≤ length T.events → MatchOption before (Unit {0}) (λ (b : ℕ). p < b) →
    suc (suc p) < number_or_end (put_in_both T p flush fence) (number_after_both p) before
both-before T p flush fence before within ahead = grind (arith, nat_tests, with-length, number-high)

pub flush_and_fence_can_be_put_in : FlushAndFenceCanBePutIn
flush_and_fence_can_be_put_in T thread line after p before flush fence is_flush is_fence place =
    let U = put_in T p fence in
    let inside : p ≤ length U.events = omega (arith, with-length p fence T.events, place.within) in
    let stays : number_after p (number_after p after) ≡ after = ap (number_after p) (number-low p after place.behind) ∙ number-low p after place.behind in
    let moves : number_after p (suc p) ≡ suc (suc p) = number-high p (suc p) (omega arith) in
    let fenced : IsAct (put_in U p flush) (suc (suc p)) (Fences thread) =
    subst (λ (k : ℕ). IsAct (put_in U p flush) k (Fences thread)) moves
    (put-events U p flush inside (suc p) (Fences thread) (put-act T p fence (Fences thread) place.within is_fence)) in (
      λ i a act. put-events U p flush inside (number_after p i) a (put-events T p fence place.within i a act),
      λ i j one two less. number-rises p (number_after p i) (number_after p j) (number-rises p i j less),
      record {
        thread = thread;
        flush = suc p;
        is_flush = put-act U p flush (Flushes thread line) inside is_flush;
        after = omega (arith, stays, place.behind);
        fenced = record { fence = suc (suc p); is_fence = fenced; after = omega arith; before = both-before T p flush fence before place.within place.ahead };
      },
    )

-- ---- A store made first

without-low : (k j : ℕ) (es : List Event) → j < k → slice_get (without_at k es) j ≡ slice_get es j
without-low k j [] low = refl
without-low zero j (d ∷ es) low = absurd (omega arith)
without-low (suc k) zero (d ∷ es) low = refl
without-low (suc k) (suc j) (d ∷ es) low = without-low k j es (omega arith)

without-high : (k j : ℕ) (es : List Event) → k ≤ j → slice_get (without_at k es) j ≡ slice_get es (suc j)
without-high k j [] high = refl
without-high zero j (d ∷ es) high = refl
without-high (suc k) zero (d ∷ es) high = absurd (omega arith)
without-high (suc k) (suc j) (d ∷ es) high = without-high k j es (omega arith)

pub without-length : (k : ℕ) (es : List Event) → k < length es → suc (length (without_at k es)) ≡ length es
without-length k [] within = absurd (omega arith)
without-length zero (d ∷ es) within = refl
without-length (suc k) (d ∷ es) within = ap suc (without-length k es (omega arith))

first-low : (k p i : ℕ) → i ≤ p → number_first k p i ≡ i
first-low k p i low = grind (arith, nat_tests)

first-between : (k p i : ℕ) → p < i → i ≤ k → number_first k p i ≡ suc i
first-between k p i above below = grind (arith, nat_tests)

first-store : (k p : ℕ) → p ≤ k → number_first k p (suc k) ≡ suc p
first-store k p early = grind (arith, nat_tests)

first-high : (k p i : ℕ) → p ≤ k → suc k < i → number_first k p i ≡ i
first-high k p i early high = grind (arith, nat_tests)

past : (k n : ℕ) → k < n → ¬ (n ≡ suc k) → suc k < n
past k n above apart = elim (cases_lt (suc k) n) [ inl high ↦ high | inr low ↦ absurd (apart (omega arith)) ]

first-rises : (k p i j : ℕ) → p ≤ k → ¬ (i ≡ suc k) → ¬ (j ≡ suc k) → i < j → number_first k p i < number_first k p j
first-rises k p i j early one two less = grind (arith, nat_tests, cases_lt, first-low, first-between, first-high, past)

first-events : (T : Recording) (k p : ℕ) (store : Event) → event T (suc k) ≡ Some store → p ≤ k → HasEvents T (put_first T k p store) (number_first k p)
first-events T k p store at early zero a is = absurd (none-some is.0 is.1)
first-events T k p store at early (suc j) a is = go (cases_lt p (suc j)) (cases_lt j k) (cases_lt k j)
  where
    few : k < length T.events
    few = event-within T k store at

    inside : p ≤ length (without_at k T.events)
    inside = let e = without-length k T.events few in omega (arith, e, few)

    there : ℕ → Type 0
    there n = IsAct (put_first T k p store) n a

    go : (p < suc j) ⊎ (suc j ≤ p) → (j < k) ⊎ (k ≤ j) → (k < j) ⊎ (j ≤ k) → there (number_first k p (suc j))
    go (inr low) b c =
        let found : slice_get (with_at p store (without_at k T.events)) j ≡ Some is.0 =
        with-low p j store (without_at k T.events) (omega arith) inside ∙ without-low k j T.events (omega arith) ∙ is.1 in
        subst there (sym (first-low k p (suc j) low)) (is.0, found, is.2)
    go (inl above) (inl below) c =
        let found : slice_get (with_at p store (without_at k T.events)) (suc j) ≡ Some is.0 =
        with-high p j store (without_at k T.events) (omega arith) ∙ without-low k j T.events below ∙ is.1 in
        subst there (sym (first-between k p (suc j) above (omega arith))) (is.0, found, is.2)
    go (inl above) (inr b) (inr c) =
        let e : j ≡ k = omega arith in
        let same : act T.format store ≡ a = ap (act T.format) (same_Some store is.0 (sym at ∙ ap (λ (n : ℕ). event T (suc n)) (sym e) ∙ is.1)) ∙ is.2 in
        let number : number_first k p (suc j) ≡ suc p = ap (λ (n : ℕ). number_first k p (suc n)) e ∙ first-store k p early in
        subst there (sym number) (store, with-here p store (without_at k T.events) inside, same)
    go (inl above) (inr b) (inl high) = later j high is
      where
        later : (m : ℕ) → k < m → IsAct T (suc m) a → there (number_first k p (suc m))
        later zero late x = absurd (omega arith)
        later (suc m) late x =
            let found : slice_get (with_at p store (without_at k T.events)) (suc m) ≡ Some x.0 =
            with-high p m store (without_at k T.events) (omega arith) ∙ without-high k m T.events (omega arith) ∙ x.1 in
            subst there (sym (first-high k p (suc (suc m)) early (omega arith))) (x.0, found, x.2)

pub store_can_be_put_first : StoreCanBePutFirst
store_can_be_put_first T k p b line what store at is before behind = (
  first-events T k p store at (omega arith),
  λ i j one two less. first-rises k p i j (omega arith) one two less,
  record {
    line = line;
    what = what;
    is_store = (store, at, is);
    earlier = omega (arith, first-store k p (omega arith), first-between k p b before behind);
    flushed = λ no. absurd (true≢false no);
  },
)

pub flushed_store_can_be_put_first : FlushedStoreCanBePutFirst
flushed_store_can_be_put_first T k p b line thread what store flush fence at is is_flush is_fence before behind =
    let U = put_first T k p store in
    let V = put_in_both U (suc p) flush fence in
    let new : ℕ → ℕ = number_after_both (suc p) in
    let size : length U.events ≡ length T.events = with-length p store (without_at k T.events) ∙ without-length k T.events (event-within T k store at) in
    let place : IsPlaceBetween U (suc p) (suc p) (Some (suc b)) =
    record { behind = omega arith; within = omega (arith, size, event-within T k store at); ahead = omega arith } in
    let put = flush_and_fence_can_be_put_in U thread line (suc p) (suc p) (Some (suc b)) flush fence is_flush is_fence place in
    let first : number_first k p (suc k) ≡ suc p = first-store k p (omega arith) in
    let kept : number_first k p b ≡ suc b = first-between k p b before behind in
    let from : IsFlushedBetween V line (new (number_first k p (suc k))) (new (suc b)) = subst (λ (n : ℕ). IsFlushedBetween V line (new n) (new (suc b))) (sym first) put.2 in
    let between : IsFlushedBetween V line (new (number_first k p (suc k))) (new (number_first k p b)) =
    subst (λ (n : ℕ). IsFlushedBetween V line (new (number_first k p (suc k))) (new n)) (sym kept) from in (
      λ i a x. put.0 (number_first k p i) a (first-events T k p store at (omega arith) i a x),
      λ i j one two less. put.1 (number_first k p i) (number_first k p j) (λ no. no) (λ no. no) (first-rises k p i j (omega arith) one two less),
      record {
        line = line;
        what = what;
        is_store = (store, at, is);
        earlier = omega (arith, between.after, between.fenced.after, between.fenced.before);
        flushed = λ no. between;
      },
    )
