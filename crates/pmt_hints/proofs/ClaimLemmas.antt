-- Lines that are noted, and flushes that are excused, as the events that are kept are read one after another.
use Rattle.std.proofs.Common.{◌≡◌, ◌≢◌, ℕ, zero, suc, ◌+◌, ◌<◌, ◌≤◌, ◌⊎◌, inl, inr, Bool, true, false, List, [], ◌∷◌, ◌++◌, length, take, get_or, Option, None, Some, refl, sym, ap, subst, ◌∙◌, arith}
use Rattle.std.specs.Prelude.{◌↔◌, ◌==◌, ◌||◌, ◌&&◌, not, nat_le, nat_lt, unwrap_or}
use Rattle.pmt_laws.specs.Prelude.{filter, list_any, Event, Layout, Act, Stores, Flushes, Clflushes, Fences, Asserts, Recording, IsAct, act, event, IsKeep, IsKept, Stays, IsRising, Has, IsFlushOf, ByFlush, ByClflush}
use Rattle.std.proofs.lemmas.Bool.{and_right, cases_lt, cases_eq, eq-eqb, ne_eqb, le-leb, lt-leb, lt-ltb, le-ltb, false≢true}
use Rattle.std.proofs.lemmas.List.{append-nil, take_more}
use Rattle.std.proofs.lemmas.Option.{none-some, same_Some, slice_get-get_or, slice_get_within}
use Rattle.pmt_laws.proofs.Histories.{act-unique}
use Rattle.pmt_causes.specs.declared.failure_keys.Origin.{Origin}
use Rattle.pmt_causes.specs.Groups.{origin_of}
use Rattle.pmt_causes.proofs.ExactFailures.{origin-exact}
use Rattle.pmt_tables.specs.Flags.{is_kept_at}
use Rattle.pmt_hints.specs.declared.named.Role.TheVariants.{Claimed}
use Rattle.pmt_hints.specs.declared.places.Places.{Places}
use Rattle.pmt_hints.specs.Hints.{AreClaimedStores, AreThose, IsExcused, IsNamed, IsOpenFlush, IsOpenThroughout, IsStoreBy, IsToldOpen}
use Rattle.pmt_hints.specs.Claiming.{AreAsked, AreExcused, Claims, asked_at, claim_at, claimed_so, event_flush, is_claimed_line, noted, noted_by, or_so, unless_so, flush_line, if_told}
use Rattle.pmt_hints.specs.Contrasts.{AreClosed, is_closed, is_place, place_of, told_so}
use Rattle.pmt_hints.proofs.NumberLemmas.{has-push}
use Rattle.pmt_hints.proofs.OpenAtLemmas.{filter-has, filter-rising}
use Rattle.pmt_hints.proofs.SplitLemmas.{origin-same}
use Rattle.pmt_hints.proofs.StoredAfterLemmas.{store-act}
use Rattle.pmt_hints.proofs.TellingLemmas.{any-has, any-none, flush-place, not-true-false}

-- ---- Claims, one after another

or-assoc : (a b c : Bool) → ((a || b) || c) ≡ (a || (b || c))
or-assoc true b c = refl
or-assoc false b c = refl

or-false : (a : Bool) → (a || false) ≡ a
or-false true = refl
or-false false = refl

-- no claim, and one after another
pub or_so-none : (o : Option Bool) → o ≡ or_so false o
or_so-none None = refl
or_so-none (Some was) = ap Some (sym (or-false was))

pub or_so-twice : (a b : Bool) (o : Option Bool) → or_so b (or_so a o) ≡ or_so (a || b) o
or_so-twice a b None = refl
or_so-twice a b (Some was) = ap Some (or-assoc was a b)

-- lines from the first one on, up to a line and with it
pub lines-more : (first line l : ℕ) → first ≤ line → ((nat_le first l && nat_lt l line) || (line == l)) ≡ (nat_le first l && nat_lt l (line + 1))
lines-more first line l from = go (cases_eq line l) (cases_lt l line)
  where
    go : (line ≡ l) ⊎ (line ≢ l) → (l < line) ⊎ (line ≤ l) → ((nat_le first l && nat_lt l line) || (line == l)) ≡ (nat_le first l && nat_lt l (line + 1))
    go (inl e) (inl below) = absurd (omega (arith, e))
    go (inl e) (inr upto) = rw (eq-eqb line l e, le-ltb l line upto, lt-ltb l (line + 1) (omega (arith, e)), le-leb first l (omega (arith, e))) refl
    go (inr apart) (inl below) = rw (ne_eqb line l apart, lt-ltb l line below, lt-ltb l (line + 1) (omega arith)) (or-false (nat_le first l && true))
    go (inr apart) (inr upto) = rw (ne_eqb line l apart, le-ltb l line upto, le-ltb l (line + 1) (omega (arith, upto, apart))) (or-false (nat_le first l && false))

-- no line yet, and the whole range
pub lines-none : (first l : ℕ) → false ≡ (nat_le first l && nat_lt l first)
lines-none first l = elim (cases_lt l first) [
  | inl below ↦ rw (lt-leb first l below) refl
  | inr upto ↦ rw (le-ltb l first upto) (sym (and_right (nat_le first l) false refl))
]

pub lines-all : (first last line l : ℕ) → (line ≡ first) ⊎ (line ≤ last + 1) → last + 1 ≤ line → (nat_le first l && nat_lt l line) ≡ (nat_le first l && nat_le l last)
lines-all first last line l at past = elim (cases_lt last l) [
  | inr upto ↦
      let below : l < line = omega (arith, upto, past) in
      rw (lt-ltb l line below, le-leb l last upto) refl
  | inl over ↦ elim at [
    | inl start ↦ rw start (sym (lines-none first l) ∙ sym (rw (lt-leb l last over) (and_right (nat_le first l) false refl)))
    | inr within ↦ rw (le-ltb l line (omega (arith, over, within)), lt-leb l last over) refl
  ]
]

-- ---- The lines that are asked for

flush-line : (T : Recording) (j t l : ℕ) → IsAct T j (Flushes t l) → event_flush T.format (event T j) ≡ Some l
flush-line T j t l flush = ap (event_flush T.format) flush.1 ∙ ap flush_line flush.2

line-act : (a : Act) (l : ℕ) → flush_line a ≡ Some l → (t : ℕ) × (a ≡ Flushes t l)
line-act (Stores k w) l e = absurd (none-some l e)
line-act (Flushes t k) l e = (t, ap (Flushes t) (same_Some k l e))
line-act (Clflushes k) l e = absurd (none-some l e)
line-act (Fences t) l e = absurd (none-some l e)
line-act Asserts l e = absurd (none-some l e)

pub asked-none : (T : Recording) (claims : Claims) → claims.entries ≡ [] → AreAsked T [] claims
asked-none T claims none = record { each = λ i t l has. absurd has; none = λ l. rw none (none-some true) }

pub asked-more : (T : Recording) (flushes : List ℕ) (i number : ℕ) (line : Option ℕ) (old new : Claims) → i < length flushes → number ≡ get_or flushes i 0 → line ≡ event_flush T.format (event T number) →
    ((l : ℕ) → claim_at new l ≡ asked_at line l (claim_at old l)) → AreAsked T (take i flushes) old → AreAsked T (take (i + 1) flushes) new
asked-more T flushes i number line old new within is own made x = record {
  each = λ j t l has flush. go j t l ((has-push (take i flushes) (get_or flushes i 0) j).0 (subst (λ ks. Has ks j) (take_more flushes i 0 within) has)) flush;
  none = λ l so. unnoted line l (sym (made l) ∙ so);
}
  where
    kept : (line : Option ℕ) (l : ℕ) → claim_at old l ≡ Some false → asked_at line l (claim_at old l) ≡ Some false
    kept None l was = was
    kept (Some k) l was = elim (cases_eq k l) [ inl e ↦ rw (eq-eqb k l e) refl | inr apart ↦ rw (ne_eqb k l apart) was ]

    unnoted : (line : Option ℕ) (l : ℕ) → asked_at line l (claim_at old l) ≢ Some true
    unnoted None l so = x.none l so
    unnoted (Some k) l so = elim (cases_eq k l) [
      | inl e ↦ false≢true (same_Some false true (sym (let here : asked_at (Some k) l (claim_at old l) ≡ Some false = rw (eq-eqb k l e) refl in here) ∙ so))
      | inr apart ↦ x.none l (sym (let other : asked_at (Some k) l (claim_at old l) ≡ claim_at old l = rw (ne_eqb k l apart) refl in other) ∙ so)
    ]

    go : (j t l : ℕ) → Has (take i flushes) j ⊎ (get_or flushes i 0 ≡ j) → IsAct T j (Flushes t l) → claim_at new l ≡ Some false
    go j t l (inl before) flush = made l ∙ kept line l (x.each j t l before flush)
    go j t l (inr here) flush =
        let line_is : line ≡ Some l = own ∙ ap (λ k. event_flush T.format (event T k)) (is ∙ here) ∙ flush-line T j t l flush in
        made l ∙ ap (λ o. asked_at o l (claim_at old l)) line_is ∙ rw (eq-eqb l l refl) refl

-- ---- One event more

-- a store to the line is claimed, among these events, and no flush of the line comes after it
pub record IsSaved (T : Recording) (l : ℕ) (ks : List ℕ) : Type 0 where
  pub store : ℕ
  pub thread : ℕ
  pub is_store : IsStoreBy T thread l store
  pub has : Has ks store
  pub not_flushed : (k : ℕ) → Has ks k → store < k → ¬ IsFlushOf T l k
  pub claimed : IsNamed T Claimed store

flush-store : (T : Recording) (l m t k : ℕ) → IsFlushOf T l k → ¬ IsStoreBy T t m k
flush-store T l m t k (ByFlush u f) s = let e = act-unique T k (Flushes u l) (Stores m s.1) f (store-act T t m k s) in absurd (cc)
flush-store T l m t k (ByClflush f) s = let e = act-unique T k (Clflushes l) (Stores m s.1) f (store-act T t m k s) in absurd (cc)

-- an act that is no flush of the line
abbrev is_flush_of : Act → ℕ → Bool
is_flush_of (Stores k w) l = false
is_flush_of (Flushes t k) l = k == l
is_flush_of (Clflushes k) l = k == l
is_flush_of (Fences t) l = false
is_flush_of Asserts l = false

no-flush : (T : Recording) (l n : ℕ) (a : Act) → IsAct T n a → is_flush_of a l ≡ false → ¬ IsFlushOf T l n
no-flush T l n a is off (ByFlush t f) = false≢true (sym off ∙ ap (λ b. is_flush_of b l) (act-unique T n a (Flushes t l) is f) ∙ eq-eqb l l refl)
no-flush T l n a is off (ByClflush f) = false≢true (sym off ∙ ap (λ b. is_flush_of b l) (act-unique T n a (Clflushes l) is f) ∙ eq-eqb l l refl)

or-true : (a : Bool) → (a || true) ≡ true
or-true true = refl
or-true false = refl

and-true : (a : Bool) → (a && true) ≡ a
and-true true = refl
and-true false = refl

named-so : (T : Recording) (flags : List Bool) (n : ℕ) (e : Event) → AreClaimedStores T flags → event T n ≡ Some e → (is_kept_at flags n ≡ true) ↔ IsNamed T Claimed n
named-so T flags zero e x at = absurd (none-some e at)
named-so T flags (suc k) e x at = x.each k (get_or flags k false) (slice_get-get_or flags k false (omega (arith, x.size, slice_get_within T.events k e at)))

module _ (T : Recording) (l : ℕ) (ks : List ℕ) (n : ℕ) (below : (k : ℕ) → Has ks k → k < n) where
  abbrev next : List ℕ
  next = ks ++ n ∷ []

  abbrev IsClaimedHere : Type 0
  IsClaimedHere = (t : ℕ) × IsStoreBy T t l n × IsNamed T Claimed n

  saved-on : ¬ IsFlushOf T l n → IsSaved T l ks → IsSaved T l next
  saved-on none s = record {
    store = s.store;
    thread = s.thread;
    is_store = s.is_store;
    has = (has-push ks n s.store).1 (inl s.has);
    not_flushed = λ k has after flush. elim ((has-push ks n k).0 has) [ inl before ↦ s.not_flushed k before after flush | inr here ↦ none (subst (IsFlushOf T l) (sym here) flush) ];
    claimed = s.claimed;
  }

  saved-back : ¬ IsClaimedHere → IsSaved T l next → IsSaved T l ks
  saved-back none s = go ((has-push ks n s.store).0 s.has)
    where
      go : Has ks s.store ⊎ (n ≡ s.store) → IsSaved T l ks
      go (inl before) = record { store = s.store; thread = s.thread; is_store = s.is_store; has = before; not_flushed = λ k has. s.not_flushed k ((has-push ks n k).1 (inl has)); claimed = s.claimed }
      go (inr here) = absurd (none (s.thread, subst (IsStoreBy T s.thread l) (sym here) s.is_store, subst (IsNamed T Claimed) (sym here) s.claimed))

  saved-here : IsClaimedHere → IsSaved T l next
  saved-here h = record {
    store = n;
    thread = h.0;
    is_store = h.1;
    has = (has-push ks n n).1 (inr refl);
    not_flushed = λ k has after. elim ((has-push ks n k).0 has) [ inl before ↦ absurd (omega (arith, below k before, after)) | inr here ↦ absurd (omega (arith, here, after)) ];
    claimed = h.2;
  }

  saved-flushed : IsFlushOf T l n → ¬ IsSaved T l next
  saved-flushed flush s = elim ((has-push ks n s.store).0 s.has) [
    | inl before ↦ s.not_flushed n ((has-push ks n n).1 (inr refl)) (below s.store before) flush
    | inr here ↦ flush-store T l l s.thread n flush (subst (IsStoreBy T s.thread l) (sym here) s.is_store)
  ]

  same : (was b : Bool) → was ≡ b → ¬ IsFlushOf T l n → ¬ IsClaimedHere → (was ≡ true) ↔ IsSaved T l ks → (b ≡ true) ↔ IsSaved T l next
  same was b is no_flush no_store before = (λ so. saved-on no_flush (before.0 (is ∙ so)), λ s. sym is ∙ before.1 (saved-back no_store s))

  no-store : (a : Act) → IsAct T n a → ((w : _) → a ≢ Stores l w) → ¬ IsClaimedHere
  no-store a is other h = other h.1.1 (act-unique T n a (Stores l h.1.1) is (store-act T h.0 l n h.1))

  flushed : (k : ℕ) (a : Act) (was b : Bool) → IsAct T n a → is_flush_of a l ≡ (k == l) → (k ≡ l → IsFlushOf T l n) → ((w : _) → a ≢ Stores l w) → (was && not (k == l)) ≡ b → (was ≡ true) ↔ IsSaved T l ks → (b ≡ true) ↔ IsSaved T l next
  flushed k a was b is own flush other by before = elim (cases_eq k l) [
    | inl e ↦ (let off : b ≡ false = sym by ∙ rw (eq-eqb k l e) (and_right was false refl) in (λ so. absurd (false≢true (sym off ∙ so)), λ s. absurd (saved-flushed (flush e) s)))
    | inr apart ↦ same was b (sym (let on : (was && not (k == l)) ≡ was = rw (ne_eqb k l apart) (and-true was) in on) ∙ by) (no-flush T l n a is (own ∙ ne_eqb k l apart)) (no-store a is other) before
  ]

  stored : (k : ℕ) (w : _) (claimed was b : Bool) → IsAct T n (Stores k w) → (claimed ≡ true) ↔ IsNamed T Claimed n → (was || (claimed && (k == l))) ≡ b → (was ≡ true) ↔ IsSaved T l ks → (b ≡ true) ↔ IsSaved T l next
  stored k w true was b is named by before = elim (cases_eq k l) [
    | inl e ↦ (let on : b ≡ true = sym by ∙ rw (eq-eqb k l e) (or-true was) in
        (λ so. saved-here ((is.0).thread, (is.0, w, is.1, refl, is.2 ∙ ap (λ m. Stores m w) e), named.0 refl), λ s. on))
    | inr apart ↦ same was b (sym (let on : (was || (k == l)) ≡ was = rw (ne_eqb k l apart) (or-false was) in on) ∙ by) (no-flush T l n (Stores k w) is refl) (no-store (Stores k w) is (λ v e. apart (cc))) before
  ]
  stored k w false was b is named by before = same was b (sym (or-false was) ∙ by) (no-flush T l n (Stores k w) is refl) (λ h. false≢true (named.1 h.2)) before

  by-act : (a : Act) (claimed was b : Bool) → IsAct T n a → (claimed ≡ true) ↔ IsNamed T Claimed n → noted_by a claimed l (Some was) ≡ Some b → (was ≡ true) ↔ IsSaved T l ks → (b ≡ true) ↔ IsSaved T l next
  by-act (Stores k w) claimed was b is named by before = stored k w claimed was b is named (same_Some _ _ by) before
  by-act (Flushes t k) claimed was b is named by before = flushed k (Flushes t k) was b is refl (λ e. ByFlush t (subst (λ m. IsAct T n (Flushes t m)) e is)) (λ w e. cc) (same_Some _ _ by) before
  by-act (Clflushes k) claimed was b is named by before = flushed k (Clflushes k) was b is refl (λ e. ByClflush (subst (λ m. IsAct T n (Clflushes m)) e is)) (λ w e. cc) (same_Some _ _ by) before
  by-act (Fences t) claimed was b is named by before = same was b (same_Some _ _ by) (no-flush T l n (Fences t) is refl) (no-store (Fences t) is (λ w e. cc)) before
  by-act Asserts claimed was b is named by before = same was b (same_Some _ _ by) (no-flush T l n Asserts is refl) (no-store Asserts is (λ w e. cc)) before

  by-event : (o : Option Event) (flags : List Bool) (was b : Bool) → event T n ≡ o → AreClaimedStores T flags → noted T.format o (is_kept_at flags n) l (Some was) ≡ Some b → (was ≡ true) ↔ IsSaved T l ks → (b ≡ true) ↔ IsSaved T l next
  by-event (Some e) flags was b at claimed by before = by-act (act T.format e) (is_kept_at flags n) was b (e, at, refl) (named-so T flags n e claimed at) by before
  by-event None flags was b at claimed by before = same was b (same_Some was b by) no_flush (λ h. none-some h.1.0 (sym at ∙ h.1.2)) before
    where
      no_flush : ¬ IsFlushOf T l n
      no_flush (ByFlush t f) = none-some f.0 (sym at ∙ f.1)
      no_flush (ByClflush f) = none-some f.0 (sym at ∙ f.1)

-- ---- The events that are kept, in their order

pub rising-above : (low : ℕ) (ks : List ℕ) (k : ℕ) → IsRising low ks → Has ks k → low < k
rising-above low [] k r h = absurd h
rising-above low (x ∷ xs) k r (inl here) = omega (arith, here, r.0)
rising-above low (x ∷ xs) k r (inr more) = omega (arith, r.0, rising-above x xs k r.1 more)

pub has-get : (ks : List ℕ) (i : ℕ) → i < length ks → Has ks (get_or ks i 0)
has-get [] i within = absurd (omega (arith, within))
has-get (k ∷ ks) zero within = inl refl
has-get (k ∷ ks) (suc i) within = inr (has-get ks i (omega (arith, within)))

-- those before one of rising numbers
has-before : (low : ℕ) (ks : List ℕ) (i k : ℕ) → IsRising low ks → i < length ks → Has (take i ks) k ↔ (Has ks k × (k < get_or ks i 0))
has-before low [] i k r within = absurd (omega (arith, within))
has-before low (x ∷ xs) zero k r within = (λ h. absurd h, λ h. elim h.0 [ inl here ↦ absurd (omega (arith, here, h.1)) | inr more ↦ absurd (omega (arith, h.1, rising-above x xs k r.1 more)) ])
has-before low (x ∷ xs) (suc i) k r within =
    let inside : i < length xs = omega (arith, within) in
    let rest : Has (take i xs) k ↔ (Has xs k × (k < get_or xs i 0)) = has-before x xs i k r.1 inside in (
      λ h. elim h [ inl here ↦ (inl here, omega (arith, here, rising-above x xs (get_or xs i 0) r.1 (has-get xs i inside))) | inr more ↦ (inr (rest.0 more).0, (rest.0 more).1) ],
      λ h. elim h.0 [ inl here ↦ inl here | inr more ↦ inr (rest.1 (more, h.1)) ],
    )

told-push : (ks new : List ℕ) (is : Bool) (n j : ℕ) → new ≡ ks ++ if_told is n → Has new j ↔ (Has ks j ⊎ ((is ≡ true) × (n ≡ j)))
told-push ks new true n j made = rw made (λ h. elim ((has-push ks n j).0 h) [ inl old ↦ inl old | inr here ↦ inr (refl, here) ], λ h. (has-push ks n j).1 (elim h [ inl old ↦ inl old | inr here ↦ inr here.1 ]))
told-push ks new false n j made = rw (made, append-nil ks) (λ h. inl h, λ h. elim h [ inl old ↦ old | inr here ↦ absurd (false≢true here.0) ])

-- of these events, the lines that are noted, and the flushes that are excused
pub record AreNoted (T : Recording) (flushes ks excused : List ℕ) (lines : Claims) : Type 0 where
  pub asked : (j t l : ℕ) → Has flushes j → IsAct T j (Flushes t l) → (b : Bool) × (claim_at lines l ≡ Some b)
  pub saved : (l : ℕ) (b : Bool) → claim_at lines l ≡ Some b → (b ≡ true) ↔ IsSaved T l ks
  pub just : (j : ℕ) → Has excused j → (t : ℕ) × (l : ℕ) × IsKept T j × IsAct T j (Flushes t l) × IsExcused T l j
  pub each : (j t l : ℕ) → Has flushes j → Has ks j → IsAct T j (Flushes t l) → IsExcused T l j → Has excused j

pub noted-none : (T : Recording) (flushes excused : List ℕ) (lines : Claims) → AreAsked T flushes lines → excused ≡ [] → AreNoted T flushes [] excused lines
noted-none T flushes excused lines x none = rw none (record {
  asked = λ j t l has flush. (false, x.each j t l has flush);
  saved = λ l b at. (λ so. absurd (x.none l (at ∙ ap Some so)), λ s. absurd s.has);
  just = λ j h. absurd h;
  each = λ j t l has h. absurd h;
})

act-none : (a : Act) (c : Bool) (l : ℕ) → noted_by a c l None ≡ None
act-none a c l = grind (arith, noted_by, or_so, unless_so)

act-some : (a : Act) (c : Bool) (l : ℕ) (was : Bool) → (b : Bool) × (noted_by a c l (Some was) ≡ Some b)
act-some (Stores k w) c l was = (_, refl)
act-some (Flushes t k) c l was = (_, refl)
act-some (Clflushes k) c l was = (_, refl)
act-some (Fences t) c l was = (_, refl)
act-some Asserts c l was = (_, refl)

event-none : (f : Layout) (o : Option Event) (c : Bool) (l : ℕ) → noted f o c l None ≡ None
event-none f None c l = refl
event-none f (Some e) c l = act-none (act f e) c l

event-some : (f : Layout) (o : Option Event) (c : Bool) (l : ℕ) (was : Bool) → (b : Bool) × (noted f o c l (Some was) ≡ Some b)
event-some f None c l was = (was, refl)
event-some f (Some e) c l was = act-some (act f e) c l was

module _ (T : Recording) (kept flushes : List ℕ) (flags : List Bool) (i : ℕ) (keep : IsKeep T kept) (claimed : AreClaimedStores T flags) (within : i < length kept) where
  abbrev n : ℕ
  n = get_or kept i 0

  abbrev ks : List ℕ
  ks = take i kept

  before : (k : ℕ) → Has ks k ↔ (IsKept T k × (k < n))
  before k = let b = has-before 0 kept i k keep.rising within in (λ h. ((keep.just k).0 (b.0 h).0, (b.0 h).1), λ h. b.1 ((keep.just k).1 h.0, h.1))

  -- at a flush, what is saved before it is what excuses it
  saved-excused : (l : ℕ) → IsSaved T l ks ↔ IsExcused T l n
  saved-excused l = (
    λ s. record {
      store = s.store;
      thread = s.thread;
      is_store = s.is_store;
      earlier = ((before s.store).0 s.has).1;
      not_flushed = λ k after early is_kept. s.not_flushed k ((before k).1 (is_kept, early)) after;
      claimed = s.claimed;
    },
    λ x. record {
      store = x.store;
      thread = x.thread;
      is_store = x.is_store;
      has = (before x.store).1 (Stays (Stores l x.is_store.1) (store-act T x.thread l x.store x.is_store) refl, x.earlier);
      not_flushed = λ k has after. x.not_flushed k after ((before k).0 has).1 ((before k).0 has).0;
      claimed = x.claimed;
    },
  )

  noted-flush : (lines : Claims) → claimed_so T lines n ≡ true → (t : ℕ) × (l : ℕ) × IsAct T n (Flushes t l) × (claim_at lines l ≡ Some true)
  noted-flush lines so = by_event (event T n) refl so
    where
      by_claim : (o : Option Bool) → unwrap_or o false ≡ true → o ≡ Some true
      by_claim None is = absurd (false≢true is)
      by_claim (Some b) is = ap Some is

      by_line : (e : Event) (o : Option ℕ) → event T n ≡ Some e → flush_line (act T.format e) ≡ o → is_claimed_line lines o ≡ true → (t : ℕ) × (l : ℕ) × IsAct T n (Flushes t l) × (claim_at lines l ≡ Some true)
      by_line e None at own is = absurd (false≢true is)
      by_line e (Some l) at own is = let flush = line-act (act T.format e) l own in (flush.0, l, (e, at, flush.1), by_claim (claim_at lines l) is)

      by_event : (o : Option Event) → event T n ≡ o → is_claimed_line lines (event_flush T.format o) ≡ true → (t : ℕ) × (l : ℕ) × IsAct T n (Flushes t l) × (claim_at lines l ≡ Some true)
      by_event None at is = absurd (false≢true is)
      by_event (Some e) at is = by_line e (flush_line (act T.format e)) at refl is

  module _ (old now : Claims) (excused pushed : List ℕ) (is : Bool) (tells : is ≡ claimed_so T old n) (made : (l : ℕ) → claim_at now l ≡ noted T.format (event T n) (is_kept_at flags n) l (claim_at old l)) (more : pushed ≡ excused ++ if_told is n)
      (x : AreNoted T flushes ks excused old) where
    saved : (l : ℕ) (b : Bool) → claim_at now l ≡ Some b → (b ≡ true) ↔ IsSaved T l (ks ++ n ∷ [])
    saved l b at = by_claim (claim_at old l) refl
      where
        by_claim : (o : Option Bool) → claim_at old l ≡ o → (b ≡ true) ↔ IsSaved T l (ks ++ n ∷ [])
        by_claim None was = absurd (none-some b (sym (event-none T.format (event T n) (is_kept_at flags n) l) ∙ sym (made l ∙ ap (noted T.format (event T n) (is_kept_at flags n) l) was) ∙ at))
        by_claim (Some d) was =
            by-event T l ks n (λ k has. ((before k).0 has).1) (event T n) flags d b refl claimed (sym (made l ∙ ap (noted T.format (event T n) (is_kept_at flags n) l) was) ∙ at) (x.saved l d was)

    asked : (j t l : ℕ) → Has flushes j → IsAct T j (Flushes t l) → (b : Bool) × (claim_at now l ≡ Some b)
    asked j t l has flush =
        let was = x.asked j t l has flush in
        let is_some = event-some T.format (event T n) (is_kept_at flags n) l was.0 in
        (is_some.0, made l ∙ ap (noted T.format (event T n) (is_kept_at flags n) l) was.1 ∙ is_some.1)

    just : (j : ℕ) → Has pushed j → (t : ℕ) × (l : ℕ) × IsKept T j × IsAct T j (Flushes t l) × IsExcused T l j
    just j has = elim ((told-push excused pushed is n j more).0 has) [
      | inl early ↦ x.just j early
      | inr here ↦ (let flush = noted-flush old (sym tells ∙ here.0) in
          let excuses : IsExcused T flush.1 n = (saved-excused flush.1).0 ((x.saved flush.1 true flush.3).0 refl) in
          let is_kept : IsKept T n = (keep.just n).0 (has-get kept i within) in
          subst (λ j. (t : ℕ) × (l : ℕ) × IsKept T j × IsAct T j (Flushes t l) × IsExcused T l j) here.1 (flush.0, flush.1, is_kept, flush.2, excuses))
    ]

    each : (j t l : ℕ) → Has flushes j → Has (ks ++ n ∷ []) j → IsAct T j (Flushes t l) → IsExcused T l j → Has pushed j
    each j t l asks has flush excuses = (told-push excused pushed is n j more).1 (elim ((has-push ks n j).0 has) [ inl early ↦ inl (x.each j t l asks early flush excuses) | inr here ↦ inr (told here, here) ])
      where
        told : n ≡ j → is ≡ true
        told here =
            let was = x.asked j t l asks flush in
            let so : was.0 ≡ true = (x.saved l was.0 was.1).1 ((saved-excused l).1 (subst (IsExcused T l) (sym here) excuses)) in
            tells ∙ ap (is_claimed_line old) (flush-line T n t l (subst (λ k. IsAct T k (Flushes t l)) (sym here) flush)) ∙ ap (λ o. unwrap_or o false) was.1 ∙ so

    pub noted-more : AreNoted T flushes (take (i + 1) kept) pushed now
    noted-more = rw (take_more kept i 0 within) (record { asked = asked; saved = saved; just = just; each = each })

pub noted-all : (T : Recording) (kept flushes excused : List ℕ) (lines : Claims) → IsKeep T kept → AreNoted T flushes kept excused lines → AreExcused T flushes excused
noted-all T kept flushes excused lines keep x = record { just = x.just; each = λ j t l asks is_kept. x.each j t l asks ((keep.just j).1 is_kept) }

-- ---- Places none of whose flushes is excused

module _ (T : Recording) (labels : List (Option ℕ)) (flushes excused : List ℕ) (closed : Places) (those : AreThose (IsOpenThroughout T labels) flushes) (x : AreExcused T flushes excused) (c : AreClosed T labels excused closed) where
  abbrev closes : Origin → ℕ → Bool
  closes p j = is_place p (place_of labels j (event T j))

  -- a kept flush of the place of one that is open throughout is so too
  alike : (i j t l : ℕ) → (h : IsOpenThroughout T labels i) → IsKept T j → IsAct T j (Flushes t l) → origin_of labels j t ≡ origin_of labels i (h.is_open.1).thread → Has flushes j
  alike i j t l h kept flush place = (those.just j).1 (record {
    is_open = (kept, o);
    all = λ k u m is_kept is_flush same. h.all k u m is_kept is_flush (same ∙ ap (origin_of labels j) thread ∙ place);
  })
    where
      o : IsOpenFlush T j
      o = h.all j t l kept flush place

      thread : o.thread ≡ t
      thread = let e = act-unique T j (Flushes o.thread o.line) (Flushes t l) o.is_flush flush in cc

  there : (i : ℕ) → Has flushes i → told_so T labels closed i ≡ true → IsToldOpen T labels i
  there i has told = record { throughout = h; unexcused = unexcused }
    where
      h : IsOpenThroughout T labels i
      h = (those.just i).0 has

      o : IsOpenFlush T i
      o = h.is_open.1

      p : Origin
      p = origin_of labels i o.thread

      none : list_any (closes p) excused ≡ false
      none = sym (c p) ∙ ap (is_closed closed) (sym (flush-place T labels i o.thread o.line o.is_flush)) ∙ not-true-false (is_closed closed (place_of labels i (event T i))) told

      unexcused : (j t l : ℕ) → IsKept T j → IsAct T j (Flushes t l) → origin_of labels j t ≡ p → ¬ IsExcused T l j
      unexcused j t l kept flush place excuses =
          let chosen = x.each j t l (alike i j t l h kept flush place) kept flush excuses in
          let found : place_of labels j (event T j) ≡ Some p = flush-place T labels j t l flush ∙ ap Some place in
          false≢true (sym none ∙ any-has (closes p) excused j chosen (ap (is_place p) found ∙ origin-same p))

  back : (i : ℕ) → IsToldOpen T labels i → Has flushes i × (told_so T labels closed i ≡ true)
  back i h = ((those.just i).1 h.throughout, rw unclosed refl)
    where
      o : IsOpenFlush T i
      o = h.throughout.is_open.1

      p : Origin
      p = origin_of labels i o.thread

      never : (j : ℕ) → Has excused j → closes p j ≡ true → ⊥
      never j chosen e =
          let f = x.just j chosen in
          let at = flush-place T labels j f.0 f.1 f.3 in
          h.unexcused j f.0 f.1 f.2 f.3 (origin-exact (origin_of labels j f.0) p (sym (ap (is_place p) at) ∙ e)) f.4

      unclosed : is_closed closed (place_of labels i (event T i)) ≡ false
      unclosed = ap (is_closed closed) (flush-place T labels i o.thread o.line o.is_flush) ∙ c p ∙ any-none (closes p) excused never

  pub unexcused-those : (told : List ℕ) → told ≡ filter (told_so T labels closed) flushes → AreThose (IsToldOpen T labels) told
  unexcused-those told is = rw is (record {
    rising = filter-rising (told_so T labels closed) 0 flushes those.rising;
    just = λ i. (λ h. let found = (filter-has (told_so T labels closed) flushes i).0 h in there i found.0 found.1, λ h. (filter-has (told_so T labels closed) flushes i).1 (back i h));
  })
