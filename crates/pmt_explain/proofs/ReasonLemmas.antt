-- Why one dropped event is dropped, by what stands around it.
use Rattle.std.proofs.Common.{◌≡◌, ◌≢◌, ℕ, zero, suc, ◌+◌, ◌-◌, ◌<◌, ◌≤◌, ◌==◌, ◌⊎◌, inl, inr, Bool, true, false, List, [], ◌∷◌, drop, None, Some, refl, sym, ap, subst, ◌∙◌, arith, get_or}
use Rattle.std.specs.Prelude.{nat_lt, if◌then◌else◌, slice_get}
use Rattle.std.proofs.lemmas.Bool.{cases_lt, eq-eqb, ltb-true, lt-ltb}
use Rattle.std.proofs.lemmas.Bool.Decides.{eqb_tells}
use Rattle.pmt_explain.specs.Prelude.{Act, Stores, Flushes, Clflushes, Fences, Asserts, Recording, IsAct, count_at, front_at, IsFlushOf, ByFlush, ByClflush, IsRising, Has, always_stays, IsKept, Stays, Reason, IsReason, OfFlush, OfClflush, OfFence, IsFlushReason, IsFenceReason, IsMarking, IsNextFence, IsOvertaken, HasFlushed}
use Rattle.pmt_laws.proofs.Histories.{act-unique, act-within}
use Rattle.pmt_reasons.specs.declared.reason.Reason.TheVariants.{Safe, Unfenced, Repeated, Overtaken, Empty, Useless}
use Rattle.pmt_reasons.proofs.ReasonLaws.{reason_exists}
use Rattle.pmt_reasons.proofs.ReasonLemmas.{reason-flush, clflush-reason-safe, fence-reasons}
use Rattle.pmt_explain.specs.Following.{IsFirst, past_of, IsFenceAfter, AreNextFlushes, ByFlushOf, IsNextFlush}
use Rattle.pmt_explain.proofs.UpcomingLemmas.{next-on}
use Rattle.pmt_explain.specs.Dropping.{is_number, has_at, IsPast, AreSafeFrom, IsFlushAfter, fence_reason, flushes_by, marking_reason}

same-number : (k l : ℕ) → (k == l) ≡ true → k ≡ l
same-number k l e = elim (eqb_tells k l) [ inl x ↦ x.1 | inr x ↦ let f = sym e ∙ x.0 in absurd (cc) ]

-- ---- The reason of a flush

module _ (T : Recording) (t l i : ℕ) (is : IsAct T i (Flushes t l)) where
  pub flush-safe : (p : ℕ) → AreSafeFrom T l (count_at T l i) p → p < i → IsReason T i Safe
  flush-safe p from early =
      let within = act-within T i (Flushes t l) is in
      OfFlush t l is (elim (cases_lt (front_at T l (i - 1)) (count_at T l i)) [ inl below ↦ absurd (omega (arith, (from (i - 1) (omega (arith, within))).1 below)) | inr above ↦ above ])

  marks : (p : ℕ) → AreSafeFrom T l (count_at T l i) p → i ≤ p → IsMarking T l i
  marks p from late = let within = act-within T i (Flushes t l) is in (from (i - 1) (omega (arith, within))).0 (omega (arith, within))

  next-fence : (fence : ℕ) → IsFirst (IsFenceAfter T t i) (past_of T) fence → fence < past_of T → IsNextFence T t i fence
  next-fence fence first before =
      let x = first.has before in
      record { is_fence = x.1; later = x.0; none_before = λ k later early at. first.none_before k early (later, at) }

  -- where it is not safe, not unfenced and not repeated, it is overtaken
  overtaken : (p fence : ℕ) → AreSafeFrom T l (count_at T l i) p → i ≤ p → IsNextFence T t i fence → ((k : ℕ) → k < fence → IsFlushAfter T t l i k → ⊥) → (r : Reason) → IsFlushReason T t l i r →
      IsFlushReason T t l i (Overtaken p)
  overtaken p fence from late next none Safe why = absurd (omega (arith, why, marks p from late))
  overtaken p fence from late next none Unfenced why = absurd (why.never fence next.later next.is_fence)
  overtaken p fence from late next none (Repeated by) why = elim (cases_lt by fence) [
    | inl early ↦ absurd (none by early (why.after, why.is_flush))
    | inr beyond ↦ absurd (why.next.none_before fence next.later (omega (arith, why.before)) next.is_fence)
  ]
  overtaken p fence from late next none (Overtaken by) why =
      let inside = (act-within T why.fence (Fences t) why.next.is_fence).1 in
      let upto : p ≤ by = elim (cases_lt by p) [ inl early ↦ absurd (omega (arith, (from by (omega (arith, inside, why.before))).0 early, why.reached)) | inr same ↦ same ] in
      let above : by - 1 < p = (from (by - 1) (omega (arith, inside, why.before))).1 why.first in
      let e : by ≡ p = omega (arith, above, upto, why.after) in
      subst (IsOvertaken T t l i) e why
  overtaken p fence from late next none Empty why = absurd why
  overtaken p fence from late next none Useless why = absurd why

  marking-told : (p fence again : ℕ) → ¬ IsKept T i → AreSafeFrom T l (count_at T l i) p → i ≤ p → IsFirst (IsFenceAfter T t i) (past_of T) fence → IsFirst (IsFlushAfter T t l i) fence again →
      IsReason T i (marking_reason p fence again (past_of T))
  marking-told p fence again dropped from late first next = go (fence == past_of T) refl
    where
      none-fenced : fence ≡ past_of T → (k : ℕ) → i < k → ¬ IsAct T k (Fences t)
      none-fenced e k later at = first.none_before k (omega (arith, e, (act-within T k (Fences t) at).1)) (later, at)

      then-line : (b : Bool) → nat_lt again fence ≡ b → fence < past_of T → IsReason T i (if b then Repeated again else Overtaken p)
      then-line true e before =
          let x = next.has (ltb-true again fence e) in
          OfFlush t l is (record {
            marks = marks p from late;
            fence = fence;
            next = next-fence fence first before;
            is_flush = x.1;
            after = x.0;
            before = ltb-true again fence e;
            first = λ k later early at. next.none_before k early (later, at);
          })
      then-line false e before =
          let r = (reason_exists T i (Flushes t l) is).0 dropped in
          OfFlush t l is (overtaken p fence from late (next-fence fence first before) (λ k early x. elim (cases_lt k again) [
            | inl before_it ↦ next.none_before k before_it x
            | inr beyond ↦ let f = sym e ∙ lt-ltb again fence (omega arith) in cc
          ]) r.0 (reason-flush T t l i r.0 is r.1))

      go : (b : Bool) → (fence == past_of T) ≡ b → IsReason T i (if b then Unfenced else if nat_lt again fence then Repeated again else Overtaken p)
      go true e = OfFlush t l is (record { marks = marks p from late; never = none-fenced (same-number fence (past_of T) e) })
      go false e = then-line (nat_lt again fence) refl (elim (cases_lt fence (past_of T)) [
        | inl before ↦ before
        | inr late ↦ let f = sym e ∙ eq-eqb fence (past_of T) (omega (arith, first.within)) in absurd (cc)
      ])

pub flush-told : (T : Recording) (t l i p fence again past : ℕ) → IsAct T i (Flushes t l) → ¬ IsKept T i → AreSafeFrom T l (count_at T l i) p → i ≤ p → past ≡ past_of T → IsFirst (IsFenceAfter T t i) (past_of T) fence →
    IsFirst (IsFlushAfter T t l i) fence again → IsReason T i (marking_reason p fence again past)
flush-told T t l i p fence again past is dropped from late same first next =
    subst (λ k. IsReason T i (marking_reason p fence again k)) (sym same) (marking-told T t l i is p fence again dropped from late first next)

-- ---- The reason of a clflush, and of a fence

clflush-told : (T : Recording) (l i : ℕ) (r : Reason) → IsAct T i (Clflushes l) → IsReason T i r → IsReason T i Safe
clflush-told T l i r is (OfFlush u k at why) = let same = act-unique T i (Flushes u k) (Clflushes l) at is in absurd (cc)
clflush-told T l i r is (OfClflush k at why) = subst (IsReason T i) (clflush-reason-safe T k i r why) (OfClflush k at why)
clflush-told T l i r is (OfFence u at why) = let same = act-unique T i (Fences u) (Clflushes l) at is in absurd (cc)

fence-told : (T : Recording) (t i : ℕ) (r : Reason) → IsAct T i (Fences t) → IsReason T i r → IsFenceReason T t i r
fence-told T t i r is (OfFlush u k at why) = let same = act-unique T i (Flushes u k) (Fences t) at is in absurd (cc)
fence-told T t i r is (OfClflush k at why) = let same = act-unique T i (Clflushes k) (Fences t) at is in absurd (cc)
fence-told T t i r is (OfFence u at why) =
    let same = act-unique T i (Fences u) (Fences t) at is in
    let thread : u ≡ t = cc in
    subst (λ v. IsFenceReason T v i r) thread why

pub clflush-dropped : (T : Recording) (l i : ℕ) → IsAct T i (Clflushes l) → ¬ IsKept T i → IsReason T i Safe
clflush-dropped T l i is dropped = let r = (reason_exists T i (Clflushes l) is).0 dropped in clflush-told T l i r.0 is r.1

pub fence-dropped : (T : Recording) (t i : ℕ) (has : Bool) → IsAct T i (Fences t) → ¬ IsKept T i → (has ≡ false → ¬ HasFlushed T t i) → (has ≡ true → HasFlushed T t i) → IsReason T i (fence_reason has)
fence-dropped T t i false is dropped none some = OfFence t is (none refl)
fence-dropped T t i true is dropped none some =
    let r = (reason_exists T i (Fences t) is).0 dropped in
    elim (fence-reasons T t i r.0 (fence-told T t i r.0 is r.1)) [ inl empty ↦ absurd (empty.1 (some refl)) | inr useless ↦ OfFence t is useless.1 ]

-- what always stays is not dropped
pub stays-kept : (T : Recording) (i : ℕ) (a : Act) → IsAct T i a → always_stays a ≡ true → ¬ IsKept T i → IsReason T i Safe
stays-kept T i a is stays dropped = absurd (dropped (Stays a is stays))

-- ---- The next flush of a line by a thread

-- the walk along the flushes of a line: this is one after event n, or past the last event, and none of the thread's stands between
pub record IsWalking (T : Recording) (t l n flush : ℕ) : Type 0 where
  pub within : flush ≤ past_of T
  pub later : n < flush
  pub is_flush : flush < past_of T → IsFlushOf T l flush
  pub none_between : (k : ℕ) → n < k → k < flush → ¬ IsAct T k (Flushes t l)

pub walk-start : (T : Recording) (t l n flush : ℕ) (list : List ℕ) → IsAct T n (Flushes t l) → AreNextFlushes T list → flush ≡ get_or list (n - 1) 0 → IsWalking T t l n flush
walk-start T t l n flush list is are found =
    let next : IsNextFlush T l n flush = subst (IsNextFlush T l n) (sym found) (next-on T list n l 0 are (ByFlushOf (ByFlush t is))) in
    record {
      within = next.within;
      later = elim (cases_lt flush (past_of T)) [ inl before ↦ (next.has before).0 | inr past ↦ omega (arith, past, (act-within T n (Flushes t l) is).1) ];
      is_flush = λ before. (next.has before).1;
      none_between = λ k above below at. next.none_before k below (above, ByFlush t at);
    }

pub walk-on : (T : Recording) (t l n flush new : ℕ) (list : List ℕ) (a : Act) → AreNextFlushes T list → flush < past_of T → IsAct T flush a → flushes_by t a ≡ false → new ≡ get_or list (flush - 1) 0 → IsWalking T t l n flush →
    (flush < new) × IsWalking T t l n new
walk-on T t l n flush new list a are inside is other found old =
    let own = old.is_flush inside in
    let next : IsNextFlush T l flush new = subst (IsNextFlush T l flush) (sym found) (next-on T list flush l 0 are (ByFlushOf own)) in
    let further : flush < new = elim (cases_lt new (past_of T)) [ inl before ↦ (next.has before).0 | inr past ↦ omega (arith, past, inside) ] in (
      further,
      record {
        within = next.within;
        later = omega (arith, old.later, further);
        is_flush = λ before. (next.has before).1;
        none_between = λ k above below at. elim (cases_lt flush k) [
          | inl after ↦ next.none_before k below (after, ByFlush t at)
          | inr upto ↦ elim (cases_lt k flush) [
            | inl early ↦ old.none_between k above early at
            | inr late ↦
                let e : k ≡ flush = omega arith in
                let same = act-unique T flush a (Flushes t l) is (subst (λ j. IsAct T j (Flushes t l)) e at) in
                let f = sym other ∙ ap (flushes_by t) same ∙ eq-eqb t t refl in
                cc
          ]
        ];
      },
    )

pub walk-found : (T : Recording) (t l n flush fence : ℕ) (a : Act) → fence ≤ past_of T → flush < fence → IsAct T flush a → flushes_by t a ≡ true → IsWalking T t l n flush → IsFirst (IsFlushAfter T t l n) fence flush
walk-found T t l n flush fence a upto before is own old = record {
  within = omega (arith, before);
  has = λ h. (old.later, by_flush a is own (old.is_flush (omega (arith, before, upto))));
  none_before = λ k below x. old.none_between k x.0 below x.1;
}
  where
    by_flush : (a : Act) → IsAct T flush a → flushes_by t a ≡ true → IsFlushOf T l flush → IsAct T flush (Flushes t l)
    by_flush (Flushes u k) is own (ByFlush v at) =
        let same = act-unique T flush (Flushes u k) (Flushes v l) is at in
        let thread : u ≡ t = same-number u t own in
        let line : k ≡ l = cc in
        subst (λ m. IsAct T flush (Flushes t m)) line (subst (λ m. IsAct T flush (Flushes m k)) thread is)
    by_flush (Flushes u k) is own (ByClflush at) = let same = act-unique T flush (Flushes u k) (Clflushes l) is at in absurd (cc)
    by_flush (Stores k w) is own flush = absurd (cc)
    by_flush (Clflushes k) is own flush = absurd (cc)
    by_flush (Fences u) is own flush = absurd (cc)
    by_flush Asserts is own flush = absurd (cc)

pub walk-end : (T : Recording) (t l n flush fence : ℕ) → fence ≤ flush → IsWalking T t l n flush → IsFirst (IsFlushAfter T t l n) fence fence
walk-end T t l n flush fence upto old = record { within = omega arith; has = λ h. absurd (omega arith); none_before = λ k below x. old.none_between k x.0 (omega (arith, below, upto)) x.1 }

-- ---- The numbers of a list that are past one

at-place : (list : List ℕ) (place : ℕ) → ((slice_get list place ≡ None) × (drop place list ≡ [])) ⊎ ((k : ℕ) × (slice_get list place ≡ Some k) × (drop place list ≡ k ∷ drop (suc place) list))
at-place [] zero = inl (refl, refl)
at-place [] (suc m) = inl (refl, refl)
at-place (x ∷ list) zero = inr (x, refl, refl)
at-place (x ∷ list) (suc m) = at-place list m

has-dropped : (list : List ℕ) (place k : ℕ) → Has (drop place list) k → Has list k
has-dropped [] zero k x = x
has-dropped [] (suc m) k x = x
has-dropped (y ∷ list) zero k x = x
has-dropped (y ∷ list) (suc m) k x = inr (has-dropped list m k x)

rising-has : (low : ℕ) (list : List ℕ) (k : ℕ) → IsRising low list → Has list k → low < k
rising-has low [] k rising x = absurd x
rising-has low (y ∷ list) k rising (inl e) = omega (arith, rising.0)
rising-has low (y ∷ list) k rising (inr x) = omega (arith, rising.0, rising-has y list k rising.1 x)

pub past-start : (list : List ℕ) → IsRising 0 list → IsPast list 0 0
past-start [] rising = record { within = omega arith; rising = rising; has = λ k above x. x }
past-start (y ∷ list) rising = record { within = omega arith; rising = rising; has = λ k above x. x }

-- one number more
pub record TellsNumber (list : List ℕ) (number next : ℕ) (stands : Bool) : Type 0 where
  pub there : stands ≡ true → Has list number
  pub missing : stands ≡ false → Has list number → ⊥
  pub past : IsPast list number next

number-told : (list : List ℕ) (n place : ℕ) → IsPast list n place → TellsNumber list (suc n) (if has_at list place (suc n) then place + 1 else place) (has_at list place (suc n))
number-told list n place old = elim (at-place list place) [
  | inl (none, rest) ↦ subst (λ o. TellsNumber list (suc n) (if is_number o (suc n) then place + 1 else place) (is_number o (suc n))) (sym none) (at-end rest)
  | inr (k, here, rest) ↦ subst (λ o. TellsNumber list (suc n) (if is_number o (suc n) then place + 1 else place) (is_number o (suc n))) (sym here) (at-number k rest (k == suc n) refl)
]
  where
    next : place + 1 ≡ suc place
    next = omega arith

    at-end : drop place list ≡ [] → TellsNumber list (suc n) place false
    at-end rest = record {
      there = λ e. absurd (cc);
      missing = λ e x. subst (λ xs. Has xs (suc n)) rest (old.has (suc n) (omega arith) x);
      past = record { within = omega (arith, old.within); rising = subst (IsRising (suc n)) (sym rest) tt; has = λ k above x. old.has k (omega arith) x };
    }

    at-number : (k : ℕ) → drop place list ≡ k ∷ drop (suc place) list → (b : Bool) → (k == suc n) ≡ b → TellsNumber list (suc n) (if b then place + 1 else place) b
    at-number k rest true e =
        let same = same-number k (suc n) e in
        let rising : IsRising n (k ∷ drop (suc place) list) = subst (IsRising n) rest old.rising in
        record {
          there = λ e. has-dropped list place (suc n) (subst (λ xs. Has xs (suc n)) (sym rest) (inl same));
          missing = λ e x. absurd (cc);
          past = subst (IsPast list (suc n)) (sym next) (record {
            within = omega (arith, old.within);
            rising = subst (λ m. IsRising m (drop (suc place) list)) same rising.1;
            has = λ m above x. elim (subst (λ xs. Has xs m) rest (old.has m (omega arith) x)) [ inl here ↦ absurd (omega (arith, same, here)) | inr later ↦ later ];
          });
        }
    at-number k rest false e =
        let rising : IsRising n (k ∷ drop (suc place) list) = subst (IsRising n) rest old.rising in
        let apart : k ≢ suc n = λ same. let f = sym e ∙ eq-eqb k (suc n) same in cc in
        record {
          there = λ e. absurd (cc);
          missing = λ e x. elim (subst (λ xs. Has xs (suc n)) rest (old.has (suc n) (omega arith) x)) [
            | inl here ↦ apart here
            | inr later ↦ omega (arith, rising.0, rising-has k (drop (suc place) list) (suc n) rising.1 later)
          ];
          past = record {
            within = omega (arith, old.within);
            rising = subst (IsRising (suc n)) (sym rest) (omega (arith, rising.0), rising.1);
            has = λ m above x. old.has m (omega arith) x;
          };
        }

pub number-at : (list : List ℕ) (n place number : ℕ) (stands : Bool) → number ≡ suc n → stands ≡ has_at list place number → IsPast list n place → TellsNumber list number (if stands then place + 1 else place) stands
number-at list n place number stands same is old =
    subst (λ b. TellsNumber list number (if b then place + 1 else place) b) (sym is)
    (subst (λ m. TellsNumber list m (if has_at list place m then place + 1 else place) (has_at list place m)) (sym same) (number-told list n place old))
