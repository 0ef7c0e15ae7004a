-- Words that two stores split.
use Rattle.std.proofs.Common.{◌≡◌, ◌≢◌, ℕ, zero, suc, ◌+◌, ◌-◌, ◌%◌, ◌^◌, ◌<◌, ◌≤◌, ◌⊎◌, inl, inr, Bool, true, false, List, [], ◌∷◌, length, Option, None, Some, refl, sym, ap, subst, ◌∙◌, arith}
use Rattle.std.specs.Prelude.{◌↔◌, ◌==◌, ◌&&◌, ◌||◌, nat_le, slice_get}
use Rattle.std.proofs.lemmas.Bool.{and_parts, cases_lt, cases_eq, eq-eqb, eqb-true, ne_eqb, le-leb, leb-true, lt-ltb, or_left, or_right, false≢true}
use Rattle.std.proofs.lemmas.Option.{none-some, same_Some}
use Rattle.pmt_laws.specs.Prelude.{Event, Op, Store, Clwb, ClflushOpt, Clflush, Sfence, Mfence, IsPersist, IsOrderedBefore, IsStore, Layout, Written, IsEventIn, IsOp, IsTrace, Recording, event, AllByRecursion}
use Rattle.pmt_laws.proofs.Histories.{event-within}
use Rattle.pmt_causes.specs.declared.failure_keys.Origin.{Origin}
use Rattle.pmt_causes.specs.declared.failure_keys.Origin.TheVariants.{Label, Thread}
use Rattle.pmt_causes.specs.contracts.failure_keys.OriginPartialEq.TheImpl as origin_eq
use Rattle.pmt_causes.specs.Groups.{origin_of}
use Rattle.pmt_causes.proofs.ExactFailures.{origin-exact}
use Rattle.pmt_hints.specs.declared.per_thread.PerThread.{PerThread}
use Rattle.pmt_hints.specs.declared.split_word.Part.{Part}
use Rattle.pmt_hints.specs.Hints.{IsSplitWord, IsStoreOf, Joins}
use Rattle.pmt_hints.specs.Numbers.{of_thread}
use Rattle.pmt_hints.specs.GoingOn.{begins_or_ends, event_part, is_same_place, joins, may_join, op_part, part, split_parts, split_so, store_of_thread}
use Rattle.pmt_hints.proofs.StepLemmas.{Decides, IsLast, last-none, last-step}

-- event k is a store by thread t
abbrev pub Stored : Recording → ℕ → ℕ → Type 0
Stored T t k = (w : Written) × IsStoreOf T t w k

abbrev pub StoresUpTo : Recording → ℕ → PerThread → Type 0
StoresUpTo T n stores = (t : ℕ) → t < 256 → IsLast (Stored T t) n (of_thread stores t)

-- whether an event is one
stored-decides : (T : Recording) (n number t x u : ℕ) (o : Op) → number ≡ suc n → event T (suc n) ≡ Some (record { thread = u; op = o }) → Decides (Stored T t) (suc n) x (store_of_thread o u number t x)
stored-decides T n number t x u (Store w) same here = elim (cases_eq u t) [
  | inl e ↦ inl ((w, here ∙ ap (λ v. Some (record { thread = v; op = Store w })) e), rw (eq-eqb u t e) same)
  | inr apart ↦ inr (λ s. let both = same_Some _ _ (sym here ∙ s.1) in apart (ap (λ (d : Event). d.thread) both), rw (ne_eqb u t apart) refl)
]
stored-decides T n number t x u (Clwb a) same here = inr (λ s. let both = same_Some _ _ (sym here ∙ s.1) in let op : Clwb a ≡ Store s.0 = ap (λ (d : Event). d.op) both in cc, refl)
stored-decides T n number t x u (ClflushOpt a) same here = inr (λ s. let both = same_Some _ _ (sym here ∙ s.1) in let op : ClflushOpt a ≡ Store s.0 = ap (λ (d : Event). d.op) both in cc, refl)
stored-decides T n number t x u (Clflush a) same here = inr (λ s. let both = same_Some _ _ (sym here ∙ s.1) in let op : Clflush a ≡ Store s.0 = ap (λ (d : Event). d.op) both in cc, refl)
stored-decides T n number t x u Sfence same here = inr (λ s. let both = same_Some _ _ (sym here ∙ s.1) in let op : Sfence ≡ Store s.0 = ap (λ (d : Event). d.op) both in cc, refl)
stored-decides T n number t x u Mfence same here = inr (λ s. let both = same_Some _ _ (sym here ∙ s.1) in let op : Mfence ≡ Store s.0 = ap (λ (d : Event). d.op) both in cc, refl)
stored-decides T n number t x u (IsPersist r) same here = inr (λ s. let both = same_Some _ _ (sym here ∙ s.1) in let op : IsPersist r ≡ Store s.0 = ap (λ (d : Event). d.op) both in cc, refl)
stored-decides T n number t x u (IsOrderedBefore r q) same here = inr (λ s. let both = same_Some _ _ (sym here ∙ s.1) in let op : IsOrderedBefore r q ≡ Store s.0 = ap (λ (d : Event). d.op) both in cc, refl)

pub stores-up : (T : Recording) (n number : ℕ) (e : Event) (old new : PerThread) → number ≡ suc n → event T (suc n) ≡ Some e → ((t : ℕ) → t < 256 → of_thread new t ≡ store_of_thread e.op e.thread number t (of_thread old t)) →
    StoresUpTo T n old → StoresUpTo T (n + 1) new
stores-up T n number e old new same here noted x =
    let next : suc n ≡ n + 1 = omega arith in
    subst (λ m. StoresUpTo T m new) next
    (λ t small. subst (IsLast (Stored T t) (suc n)) (sym (noted t small)) (last-step (Stored T t) n _ _ (stored-decides T n number t (of_thread old t) e.thread e.op same here) (x t small)))

pub stores-none : (T : Recording) (stores : PerThread) → ((t : ℕ) → t < 256 → of_thread stores t ≡ 0) → StoresUpTo T 0 stores
stores-none T stores all = λ t small. subst (IsLast (Stored T t) 0) (sym (all t small)) (last-none (Stored T t))

-- two stores that join
joins-told : (f : Layout) (a b : Written) → (joins f (part a) (part b) ≡ true) ↔ Joins f a b
joins-told f a b = (
  λ so.
      let outer = and_parts (a.addr + length a.bytes == b.addr && nat_le (length a.bytes + length b.bytes) 8) (b.addr % f.line_size == 0) so in
      let inner = and_parts (a.addr + length a.bytes == b.addr) (nat_le (length a.bytes + length b.bytes) 8) outer.0 in
      record { follows = eqb-true (a.addr + length a.bytes) b.addr inner.0; word = leb-true (length a.bytes + length b.bytes) 8 inner.1; line = eqb-true (b.addr % f.line_size) 0 outer.1 },
  λ j. rw (eq-eqb (a.addr + length a.bytes) b.addr j.follows, le-leb (length a.bytes + length b.bytes) 8 j.word, eq-eqb (b.addr % f.line_size) 0 j.line) refl,
)

pub origin-same : (p : Origin) → (origin_eq.ghosts).eq p p ≡ true
origin-same (Label a) = eq-eqb a a refl
origin-same (Thread t) = eq-eqb t t refl

pub place-told : (labels : List (Option ℕ)) (j i t : ℕ) → (is_same_place labels j i t ≡ true) ↔ (origin_of labels j t ≡ origin_of labels i t)
place-told labels j i t = (origin-exact (origin_of labels j t) (origin_of labels i t), λ e. ap (λ p. (origin_eq.ghosts).eq p (origin_of labels i t)) e ∙ origin-same (origin_of labels i t))

either-told : (a b : Bool) → ((a || b) ≡ true) ↔ ((a ≡ true) ⊎ (b ≡ true))
either-told true b = (λ _. inl refl, λ _. refl)
either-told false true = (λ _. inr refl, λ _. refl)
either-told false false = (λ so. absurd (false≢true so), λ h. elim h [ inl e ↦ e | inr e ↦ e ])

-- a part that has 8 bytes, or neither begins nor ends a line, joins no store
joins-off : (f : Layout) (w : Written) (b : Part) → IsStore w → may_join f b ≡ false → (joins f (part w) b || joins f b (part w)) ≡ false
joins-off f w b is off = go (joins f (part w) b || joins f b (part w)) refl
  where
    on : b.len < 8 → begins_or_ends f b ≡ true → may_join f b ≡ true
    on short at = rw (lt-ltb b.len 8 short, at) refl

    begins : joins f (part w) b ≡ true → may_join f b ≡ true
    begins so =
        let outer = and_parts (w.addr + length w.bytes == b.addr && nat_le (length w.bytes + b.len) 8) (b.addr % f.line_size == 0) so in
        let inner = and_parts (w.addr + length w.bytes == b.addr) (nat_le (length w.bytes + b.len) 8) outer.0 in
        let word = leb-true (length w.bytes + b.len) 8 inner.1 in
        on (omega (arith, word, is.some)) (or_left (b.addr % f.line_size == 0) ((b.addr + b.len) % 2 ^ 64 % f.line_size == 0) outer.1)

    ends : joins f b (part w) ≡ true → may_join f b ≡ true
    ends so =
        let outer = and_parts (b.addr + b.len == w.addr && nat_le (b.len + length w.bytes) 8) (w.addr % f.line_size == 0) so in
        let inner = and_parts (b.addr + b.len == w.addr) (nat_le (b.len + length w.bytes) 8) outer.0 in
        let word = leb-true (b.len + length w.bytes) 8 inner.1 in
        let follows : b.addr + b.len ≡ w.addr = eqb-true (b.addr + b.len) w.addr inner.0 in
        let whole : (b.addr + b.len) % 2 ^ 64 ≡ w.addr = omega (arith, follows, is.address) in
        on (omega (arith, word, is.some))
        (or_right (b.addr % f.line_size == 0) ((b.addr + b.len) % 2 ^ 64 % f.line_size == 0) (ap (λ n. n % f.line_size == 0) whole ∙ outer.1))

    go : (t : Bool) → (joins f (part w) b || joins f b (part w)) ≡ t → (joins f (part w) b || joins f b (part w)) ≡ false
    go false e = e
    go true e = elim ((either-told (joins f (part w) b) (joins f b (part w))).0 e) [
      | inl first ↦ absurd (false≢true (sym off ∙ begins first))
      | inr second ↦ absurd (false≢true (sym off ∙ ends second))
    ]

each-at : {X : Type 0} (P : X → Type 0) (xs : List X) (n : ℕ) (x : X) → AllByRecursion P xs → slice_get xs n ≡ Some x → P x
each-at P [] n x h at = absurd (none-some x at)
each-at P (y ∷ xs) zero x h at = subst P (same_Some y x at) h.0
each-at P (y ∷ xs) (suc n) x h at = each-at P xs n x h.1 at

event-op : (T : Recording) (j : ℕ) (e : Event) → IsTrace T → event T j ≡ Some e → IsOp e.op
event-op T zero e trace at = absurd (none-some e at)
event-op T (suc k) e trace at = (each-at (IsEventIn T.format) T.events k e trace.each at).event.op

pub never-split : (T : Recording) (labels : List (Option ℕ)) (j t i : ℕ) (o : Op) (b : Part) → IsTrace T → op_part o ≡ Some b → may_join T.format b ≡ false → split_so T labels j t o i ≡ false
never-split T labels j t i o b trace is off = rw is (by_event (event T j) refl)
  where
    by_op : (p : Op) → IsOp p → split_parts T.format labels j t i (Some b) (op_part p) ≡ false
    by_op (Store w) store = rw (joins-off T.format w b store off) refl
    by_op (Clwb a) x = refl
    by_op (ClflushOpt a) x = refl
    by_op (Clflush a) x = refl
    by_op Sfence x = refl
    by_op Mfence x = refl
    by_op (IsPersist r) x = refl
    by_op (IsOrderedBefore r q) x = refl

    by_event : (e : Option Event) → event T j ≡ e → split_parts T.format labels j t i (Some b) (event_part e) ≡ false
    by_event None at = refl
    by_event (Some e) at = by_op e.op (event-op T j e trace at)

-- by the last store of the thread
pub split-told : (T : Recording) (labels : List (Option ℕ)) (n j number t : ℕ) (stores : PerThread) (o : Op) (b : Bool) → number ≡ suc n → event T (suc n) ≡ Some (record { thread = t; op = o }) → t < 256 → j ≡ of_thread stores t →
    b ≡ split_so T labels j t o number → StoresUpTo T n stores → (b ≡ true) ↔ IsSplitWord T labels (suc n)
split-told T labels n j number t stores o b same here small at tells x = rw (tells, same) (by_op o here)
  where
    last : IsLast (Stored T t) n j
    last = subst (IsLast (Stored T t) n) (sym at) (x t small)

    own : {p : Op} → event T (suc n) ≡ Some (record { thread = t; op = p }) → (h : IsSplitWord T labels (suc n)) → (t ≡ h.thread) × (p ≡ Store h.second)
    own here h = let both = same_Some _ _ (sym here ∙ h.is_second) in (ap (λ (d : Event). d.thread) both, ap (λ (d : Event). d.op) both)

    no_store : (p : Op) → event T (suc n) ≡ Some (record { thread = t; op = p }) → ((w : Written) → p ≢ Store w) → (false ≡ true) ↔ IsSplitWord T labels (suc n)
    no_store p here other = (λ so. absurd (false≢true so), λ h. absurd (other h.second (own here h).1))

    -- its earlier store is the last one
    earlier : (h : IsSplitWord T labels (suc n)) → t ≡ h.thread → h.earlier ≡ j
    earlier h thread = go (cases_lt j h.earlier) (cases_lt h.earlier j)
      where
        first : Stored T t h.earlier
        first = (h.first, subst (λ u. IsStoreOf T u h.first h.earlier) (sym thread) h.is_first)

        go : (j < h.earlier) ⊎ (h.earlier ≤ j) → (h.earlier < j) ⊎ (j ≤ h.earlier) → h.earlier ≡ j
        go (inl above) either = absurd (last.none_after h.earlier above (omega (arith, h.order)) first)
        go (inr upto) (inr from) = omega arith
        go (inr upto) (inl above) = let s = last.has (omega arith) in absurd (h.none_between j s.0 above (omega (arith, last.within)) (subst (λ u. IsStoreOf T u s.0 j) thread s.1))

    by_op : (p : Op) → event T (suc n) ≡ Some (record { thread = t; op = p }) → (split_so T labels j t p (suc n) ≡ true) ↔ IsSplitWord T labels (suc n)
    by_op (Clwb a) here = no_store (Clwb a) here (λ w e. cc)
    by_op (ClflushOpt a) here = no_store (ClflushOpt a) here (λ w e. cc)
    by_op (Clflush a) here = no_store (Clflush a) here (λ w e. cc)
    by_op Sfence here = no_store Sfence here (λ w e. cc)
    by_op Mfence here = no_store Mfence here (λ w e. cc)
    by_op (IsPersist r) here = no_store (IsPersist r) here (λ w e. cc)
    by_op (IsOrderedBefore r q) here = no_store (IsOrderedBefore r q) here (λ w e. cc)
    by_op (Store v) here = (there, back)
      where
        there : split_parts T.format labels j t (suc n) (Some (part v)) (event_part (event T j)) ≡ true → IsSplitWord T labels (suc n)
        there so = by_event (event T j) refl so
          where
            by_first : (p : Op) (u : ℕ) → event T j ≡ Some (record { thread = u; op = p }) → split_parts T.format labels j t (suc n) (Some (part v)) (op_part p) ≡ true → IsSplitWord T labels (suc n)
            by_first (Clwb a) u e so = absurd (false≢true so)
            by_first (ClflushOpt a) u e so = absurd (false≢true so)
            by_first (Clflush a) u e so = absurd (false≢true so)
            by_first Sfence u e so = absurd (false≢true so)
            by_first Mfence u e so = absurd (false≢true so)
            by_first (IsPersist r) u e so = absurd (false≢true so)
            by_first (IsOrderedBefore r q) u e so = absurd (false≢true so)
            by_first (Store w) u e so =
                let both = and_parts (joins T.format (part w) (part v) || joins T.format (part v) (part w)) (is_same_place labels j (suc n) t) so in
                let s = last.has (positive j u (Store w) e) in
                let found = same_Some _ _ (sym e ∙ s.1) in
                let thread : u ≡ t = ap (λ (d : Event). d.thread) found in
                record {
                  thread = t;
                  earlier = j;
                  first = w;
                  second = v;
                  is_first = subst (λ x. IsStoreOf T x w j) thread e;
                  is_second = here;
                  order = omega (arith, last.within);
                  none_between = λ k x above below store. last.none_after k above (omega arith) (x, store);
                  joined = elim ((either-told (joins T.format (part w) (part v)) (joins T.format (part v) (part w))).0 both.0) [ inl e ↦ inl ((joins-told T.format w v).0 e) | inr e ↦ inr ((joins-told T.format v w).0 e) ];
                  same_place = (place-told labels j (suc n) t).0 both.1;
                }
              where
                positive : (k u : ℕ) (p : Op) → event T k ≡ Some (record { thread = u; op = p }) → 0 < k
                positive k u p is = elim (cases_lt 0 k) [ inl some ↦ some | inr none ↦ let zero_is : k ≡ 0 = omega arith in absurd (none-some (record { thread = u; op = p }) (sym (ap (event T) zero_is) ∙ is)) ]

            by_event : (f : Option Event) → event T j ≡ f → split_parts T.format labels j t (suc n) (Some (part v)) (event_part f) ≡ true → IsSplitWord T labels (suc n)
            by_event None e so = absurd (false≢true so)
            by_event (Some d) e so = by_first d.op d.thread e so

        back : IsSplitWord T labels (suc n) → split_parts T.format labels j t (suc n) (Some (part v)) (event_part (event T j)) ≡ true
        back h =
            let mine = own here h in
            let second : v ≡ h.second = cc (mine.1) in
            let at_j : h.earlier ≡ j = earlier h mine.0 in
            let there : event T j ≡ Some (record { thread = h.thread; op = Store h.first }) = ap (event T) (sym at_j) ∙ h.is_first in
            let place : origin_of labels j t ≡ origin_of labels (suc n) t =
            ap (λ k. origin_of labels k t) (sym at_j) ∙ ap (origin_of labels h.earlier) mine.0 ∙ h.same_place ∙ ap (origin_of labels (suc n)) (sym mine.0)
            in
            let joined : (joins T.format (part h.first) (part v) || joins T.format (part v) (part h.first)) ≡ true =
            (either-told (joins T.format (part h.first) (part v)) (joins T.format (part v) (part h.first))).1
            (elim h.joined [
              | inl x ↦ inl (ap (λ z. joins T.format (part h.first) (part z)) second ∙ (joins-told T.format h.first h.second).1 x)
              | inr x ↦ inr (ap (λ z. joins T.format (part z) (part h.first)) second ∙ (joins-told T.format h.second h.first).1 x)
            ])
            in
            rw (there, joined, (place-told labels j (suc n) t).1 place) refl

pub split-bound : (T : Recording) (labels : List (Option ℕ)) (i : ℕ) → IsSplitWord T labels i → (1 ≤ i) × (i ≤ length T.events)
split-bound T labels i h = go i h.order h.is_second
  where
    go : (k : ℕ) → h.earlier < k → IsStoreOf T h.thread h.second k → (1 ≤ k) × (k ≤ length T.events)
    go k above is = let e : k ≡ suc (k - 1) = omega (arith, above) in (omega (arith, above), omega (arith, e, event-within T (k - 1) _ (subst (λ m. IsStoreOf T h.thread h.second m) e is)))
