-- Stores that go on from one line to the next.
use Rattle.std.proofs.Common.{◌≡◌, ◌≢◌, ℕ, suc, ◌+◌, ◌-◌, ◌<◌, ◌≤◌, ◌⊎◌, inl, inr, Bool, true, false, List, [], length, Option, None, Some, refl, sym, ap, subst, ◌∙◌, arith}
use Rattle.std.specs.Prelude.{◌↔◌, ◌==◌, ◌&&◌, ◌||◌, if◌then◌else◌, is_some, slice_get}
use Rattle.std.proofs.lemmas.Bool.{and_parts, cases_lt, cases_eq, eq-eqb, eqb-true, ne_eqb, le-leb, lt-leb, lt-ltb, le-ltb, or_cases, or_left, or_right, false≢true}
use Rattle.std.proofs.lemmas.Option.{none-some, same_Some}
use Rattle.pmt_laws.specs.Prelude.{Event, Op, Store, Clwb, ClflushOpt, Clflush, Sfence, Mfence, IsPersist, IsOrderedBefore, Layout, Written, Act, Stores, Flushes, Clflushes, Fences, Asserts, Recording, act, act_of, event}
use Rattle.pmt_laws.proofs.Histories.{act-unique, act-within}
use Rattle.pmt_explain.specs.Following.{IsFirst, past_of, AreSafePlaces, IsSafePlace}
use Rattle.pmt_causes.specs.Groups.{origin_of}
use Rattle.pmt_causes.specs.Late.{AreWaited, fences_between}
use Rattle.pmt_hints.specs.declared.per_thread.PerThread.{PerThread}
use Rattle.pmt_hints.specs.GoingOn.{IsRest, GoesFurther, event_line, is_behind, is_joined, is_lost_or_late, line_before, line_by, line_from, line_if, line_left, event_part, is_same_place, op_part, part}
use Rattle.pmt_hints.specs.Hints.{GoesOn, IsLostOrLate, IsStoreBy}
use Rattle.pmt_hints.specs.Claiming.{store_line}
use Rattle.pmt_hints.specs.Numbers.{LastFlushes, flush_at, of_thread, any_store_by}
use Rattle.pmt_hints.proofs.SplitLemmas.{place-told}
use Rattle.pmt_hints.proofs.StepLemmas.{Decides, IsLast, last-none, last-step}
use Rattle.pmt_hints.proofs.StoredAfterLemmas.{own-store, store-act}

-- event k is a store by thread t, and the last one of each thread up to place n
abbrev pub StoredBy : Recording → ℕ → ℕ → Type 0
StoredBy T t k = (m : ℕ) × IsStoreBy T t m k

abbrev pub AnyStoresUpTo : Recording → ℕ → PerThread → Type 0
AnyStoresUpTo T n stores = (t : ℕ) → t < 256 → IsLast (StoredBy T t) n (of_thread stores t)

-- whether an event is one
stored-decides : (T : Recording) (n number t x : ℕ) (e : Event) (a : Act) → number ≡ suc n → event T (suc n) ≡ Some e → act T.format e ≡ a → Decides (StoredBy T t) (suc n) x (any_store_by a e.thread number t x)
stored-decides T n number t x e (Flushes u k) same here is = inr (λ s. let x = act-unique T (suc n) (Flushes u k) (Stores s.0 (s.1).1) (e, here, is) (store-act T t s.0 (suc n) s.1) in cc, refl)
stored-decides T n number t x e (Clflushes k) same here is = inr (λ s. let x = act-unique T (suc n) (Clflushes k) (Stores s.0 (s.1).1) (e, here, is) (store-act T t s.0 (suc n) s.1) in cc, refl)
stored-decides T n number t x e (Fences u) same here is = inr (λ s. let x = act-unique T (suc n) (Fences u) (Stores s.0 (s.1).1) (e, here, is) (store-act T t s.0 (suc n) s.1) in cc, refl)
stored-decides T n number t x e Asserts same here is = inr (λ s. let x = act-unique T (suc n) Asserts (Stores s.0 (s.1).1) (e, here, is) (store-act T t s.0 (suc n) s.1) in cc, refl)
stored-decides T n number t x e (Stores k w) same here is = elim (cases_eq e.thread t) [
  | inl own ↦ inl ((k, (e, w, here, own, is)), ap (λ b. if b then number else x) (eq-eqb e.thread t own) ∙ same)
  | inr apart ↦ inr (λ s. apart (own-store T (suc n) t s.0 e here s.1).0, ap (λ b. if b then number else x) (ne_eqb e.thread t apart))
]

pub any-stores-up : (T : Recording) (n number : ℕ) (e : Event) (a : Act) (old new : PerThread) → number ≡ suc n → event T (suc n) ≡ Some e → act T.format e ≡ a →
    ((t : ℕ) → t < 256 → of_thread new t ≡ any_store_by a e.thread number t (of_thread old t)) → AnyStoresUpTo T n old → AnyStoresUpTo T (n + 1) new
any-stores-up T n number e a old new same here is noted x =
    let next : suc n ≡ n + 1 = omega arith in
    subst (λ m. AnyStoresUpTo T m new) next
    (λ t small. subst (IsLast (StoredBy T t) (suc n)) (sym (noted t small)) (last-step (StoredBy T t) n _ _ (stored-decides T n number t (of_thread old t) e a same here is) (x t small)))

pub any-stores-none : (T : Recording) (stores : PerThread) → ((t : ℕ) → t < 256 → of_thread stores t ≡ 0) → AnyStoresUpTo T 0 stores
any-stores-none T stores all = λ t small. subst (IsLast (StoredBy T t) 0) (sym (all t small)) (last-none (StoredBy T t))

-- of each line by each thread the last event that tells of it
abbrev pub LinesUpTo : (ℕ → ℕ → ℕ → Type 0) → ℕ → LastFlushes → Type 0
LinesUpTo Q n lines = (t l : ℕ) → IsLast (Q t l) n (flush_at lines t l)

-- an event of thread u tells of this line, and of no other one
pub record Tells (Q : ℕ → ℕ → ℕ → Type 0) (u i : ℕ) (line : Option ℕ) : Type 0 where
  pub told : (l : ℕ) → (line ≡ Some l) ↔ Q u l i
  pub own : (t l : ℕ) → Q t l i → u ≡ t

line-decides : (Q : ℕ → ℕ → ℕ → Type 0) (n number u t l x : ℕ) (line : Option ℕ) → number ≡ suc n → Tells Q u (suc n) line → Decides (Q t l) (suc n) x (line_by line u number t l x)
line-decides Q n number u t l x None same tells = inr (λ q. none-some l ((tells.told l).1 (subst (λ v. Q v l (suc n)) (sym (tells.own t l q)) q)), refl)
line-decides Q n number u t l x (Some k) same tells = go (cases_eq u t) (cases_eq k l)
  where
    go : (u ≡ t) ⊎ (u ≢ t) → (k ≡ l) ⊎ (k ≢ l) → Decides (Q t l) (suc n) x (line_by (Some k) u number t l x)
    go (inl e) (inl f) = inl (subst (λ v. Q v l (suc n)) e (subst (λ m. Q u m (suc n)) f ((tells.told k).0 refl)), rw (eq-eqb u t e, eq-eqb k l f) same)
    go (inl e) (inr apart) = inr (λ q. apart (same_Some k l ((tells.told l).1 (subst (λ v. Q v l (suc n)) (sym e) q))), rw (eq-eqb u t e, ne_eqb k l apart) refl)
    go (inr apart) either = inr (λ q. apart (tells.own t l q), rw (ne_eqb u t apart) refl)

pub lines-up : (Q : ℕ → ℕ → ℕ → Type 0) (n number u : ℕ) (line : Option ℕ) (old new : LastFlushes) → number ≡ suc n → Tells Q u (suc n) line → ((t l : ℕ) → flush_at new t l ≡ line_by line u number t l (flush_at old t l)) →
    LinesUpTo Q n old → LinesUpTo Q (n + 1) new
lines-up Q n number u line old new same tells noted x =
    let next : suc n ≡ n + 1 = omega arith in
    subst (λ m. LinesUpTo Q m new) next (λ t l. subst (IsLast (Q t l) (suc n)) (sym (noted t l)) (last-step (Q t l) n _ _ (line-decides Q n number u t l (flush_at old t l) line same tells) (x t l)))

pub lines-none : (Q : ℕ → ℕ → ℕ → Type 0) (lines : LastFlushes) → lines.entries ≡ [] → LinesUpTo Q 0 lines
lines-none Q lines none = λ t l.
    let value : flush_at lines t l ≡ 0 = rw none refl in
    subst (IsLast (Q t l) 0) (sym value) (last-none (Q t l))

-- the line of a store
line-told : (T : Recording) (j l : ℕ) → (event_line T.format (event T j) ≡ Some l) ↔ ((d : Event) × (w : Written) × (event T j ≡ Some d) × (act T.format d ≡ Stores l w))
line-told T j l = (λ so. there (event T j) refl so, λ h. ap (event_line T.format) h.2 ∙ ap store_line h.3)
  where
    by_act : (d : Event) (a : Act) → event T j ≡ Some d → act T.format d ≡ a → store_line a ≡ Some l → (d : Event) × (w : Written) × (event T j ≡ Some d) × (act T.format d ≡ Stores l w)
    by_act d (Stores k w) at is so = (d, w, at, is ∙ ap (λ m. Stores m w) (same_Some k l so))
    by_act d (Flushes t k) at is so = absurd (none-some l so)
    by_act d (Clflushes k) at is so = absurd (none-some l so)
    by_act d (Fences t) at is so = absurd (none-some l so)
    by_act d Asserts at is so = absurd (none-some l so)

    there : (o : Option Event) → event T j ≡ o → event_line T.format o ≡ Some l → (d : Event) × (w : Written) × (event T j ≡ Some d) × (act T.format d ≡ Stores l w)
    there None at so = absurd (none-some l so)
    there (Some d) at so = by_act d (act T.format d) at refl so

-- the line that is left
from-told : (joined : Bool) (m l : ℕ) (before : Option ℕ) → (line_from joined (Some m) before ≡ Some l) ↔ ((before ≡ Some l) × (suc l ≡ m) × (joined ≡ true))
from-told joined m l None = (λ so. absurd (none-some l so), λ h. absurd (none-some l h.0))
from-told joined m l (Some k) = (λ so. there (suc k == m && joined) refl so, back)
  where
    there : (b : Bool) → (suc k == m && joined) ≡ b → (if b then Some k else None) ≡ Some l → (Some k ≡ Some l) × (suc l ≡ m) × (joined ≡ true)
    there false e so = absurd (none-some l so)
    there true e so =
        let both = and_parts (suc k == m) joined e in
        (so, ap suc (sym (same_Some k l so)) ∙ eqb-true (suc k) m both.0, both.1)

    back : (Some k ≡ Some l) × (suc l ≡ m) × (joined ≡ true) → line_from joined (Some m) (Some k) ≡ Some l
    back h = let next : suc k ≡ m = ap suc (same_Some k l h.0) ∙ h.1 in rw (eq-eqb (suc k) m next, h.2) h.0

-- the bytes of a store
part-stored : (f : Layout) (u l : ℕ) (o : Op) (w : Written) → act_of f u o ≡ Stores l w → op_part o ≡ Some (part w)
part-stored f u l (Store v) w e = let same : v ≡ w = cc in ap (λ x. Some (part x)) same
part-stored f u l (Clwb a) w e = absurd (cc)
part-stored f u l (ClflushOpt a) w e = absurd (cc)
part-stored f u l (Clflush a) w e = absurd (cc)
part-stored f u l Sfence w e = absurd (cc)
part-stored f u l Mfence w e = absurd (cc)
part-stored f u l (IsPersist r) w e = absurd (cc)
part-stored f u l (IsOrderedBefore r q) w e = absurd (cc)

-- whether two stores are joined
abbrev AreJoined : List (Option ℕ) → ℕ → ℕ → ℕ → Written → Written → Type 0
AreJoined labels j i t v w = (origin_of labels j t ≡ origin_of labels i t) ⊎ (v.addr + length v.bytes ≡ w.addr)

joined-told : (T : Recording) (labels : List (Option ℕ)) (j i t k l : ℕ) (d e : Event) (v w : Written) → event T j ≡ Some d → act T.format d ≡ Stores k v → act T.format e ≡ Stores l w →
    (is_joined T labels j t e.op i ≡ true) ↔ AreJoined labels j i t v w
joined-told T labels j i t k l d e v w at first second = subst (λ b. ((is_same_place labels j i t || b) ≡ true) ↔ AreJoined labels j i t v w) (sym behind) (there, back)
  where
    behind : is_behind (event_part (event T j)) (op_part e.op) ≡ (v.addr + length v.bytes == w.addr)
    behind = ap (λ o. is_behind (event_part o) (op_part e.op)) at ∙ ap (λ p. is_behind p (op_part e.op)) (part-stored T.format d.thread k d.op v first) ∙ ap (is_behind (Some (part v))) (part-stored T.format e.thread l e.op w second)

    there : (is_same_place labels j i t || (v.addr + length v.bytes == w.addr)) ≡ true → AreJoined labels j i t v w
    there so = elim (or_cases (is_same_place labels j i t) (v.addr + length v.bytes == w.addr) so) [
      | inl same ↦ inl ((place-told labels j i t).0 same)
      | inr follows ↦ inr (eqb-true (v.addr + length v.bytes) w.addr follows)
    ]

    back : AreJoined labels j i t v w → (is_same_place labels j i t || (v.addr + length v.bytes == w.addr)) ≡ true
    back (inl same) = or_left (is_same_place labels j i t) (v.addr + length v.bytes == w.addr) ((place-told labels j i t).1 same)
    back (inr follows) = or_right (is_same_place labels j i t) (v.addr + length v.bytes == w.addr) (eq-eqb (v.addr + length v.bytes) w.addr follows)

-- by the last store of the thread
pub left-tells : (T : Recording) (labels : List (Option ℕ)) (n j number : ℕ) (e : Event) (stores : PerThread) (line : Option ℕ) → number ≡ suc n → event T (suc n) ≡ Some e → e.thread < 256 →
    j ≡ of_thread stores e.thread → line ≡ line_left T labels j e.thread e.op number → AnyStoresUpTo T n stores → Tells (GoesOn T labels) e.thread (suc n) line
left-tells T labels n j number e stores line same here small at tells x = record { told = λ l. rw (tells, same) (by_act (act T.format e) refl l); own = λ t l h. (own-store T (suc n) t (suc l) e here h.is_store).0 }
  where
    t : ℕ
    t = e.thread

    last : IsLast (StoredBy T t) n j
    last = subst (IsLast (StoredBy T t) n) (sym at) (x t small)

    no_store : (b : Act) (l : ℕ) → act T.format e ≡ b → ((m : ℕ) (w : Written) → b ≢ Stores m w) → (None ≡ Some l) ↔ GoesOn T labels t l (suc n)
    no_store b l own other = (λ so. absurd (none-some l so), λ h. absurd (other (suc l) h.is_store.1 (sym own ∙ (own-store T (suc n) t (suc l) e here h.is_store).1)))

    earlier : (l : ℕ) (h : GoesOn T labels t l (suc n)) → h.earlier ≡ j
    earlier l h = go (cases_lt j h.earlier) (cases_lt h.earlier j)
      where
        go : (j < h.earlier) ⊎ (h.earlier ≤ j) → (h.earlier < j) ⊎ (j ≤ h.earlier) → h.earlier ≡ j
        go (inl above) either = absurd (last.none_after h.earlier above (omega (arith, h.order)) (l, h.is_earlier))
        go (inr upto) (inr from) = omega arith
        go (inr upto) (inl above) = let s = last.has (omega arith) in absurd (h.none_between j s.0 above (omega (arith, last.within)) s.1)

    joined : Bool
    joined = is_joined T labels j t e.op (suc n)

    by_act : (b : Act) → act T.format e ≡ b → (l : ℕ) → (line_from joined (store_line b) (event_line T.format (event T j)) ≡ Some l) ↔ GoesOn T labels t l (suc n)
    by_act (Flushes u k) own l = no_store (Flushes u k) l own (λ m w e. cc)
    by_act (Clflushes k) own l = no_store (Clflushes k) l own (λ m w e. cc)
    by_act (Fences u) own l = no_store (Fences u) l own (λ m w e. cc)
    by_act Asserts own l = no_store Asserts l own (λ m w e. cc)
    by_act (Stores m w) own l = (there, back)
      where
        there : line_from joined (Some m) (event_line T.format (event T j)) ≡ Some l → GoesOn T labels t l (suc n)
        there so =
            let from = (from-told joined m l (event_line T.format (event T j))).0 so in
            let first = (line-told T j l).0 from.0 in
            let s = last.has (act-within T j (Stores l first.1) (first.0, first.2, first.3)).0 in
            let thread : (first.0).thread ≡ t = (own-store T j t s.0 first.0 first.2 s.1).0 in
            record {
              earlier = j;
              is_earlier = (first.0, first.1, first.2, thread, first.3);
              is_store = (e, w, here, refl, own ∙ ap (λ y. Stores y w) (sym from.1));
              order = omega (arith, last.within);
              none_between = λ k y above below s. last.none_after k above (omega arith) (y, s);
              joined = (joined-told T labels j (suc n) t l m first.0 e first.1 w first.2 first.3 own).0 from.2;
            }

        back : GoesOn T labels t l (suc n) → line_from joined (Some m) (event_line T.format (event T j)) ≡ Some l
        back h =
            let both : Stores m w ≡ Stores (suc l) h.is_store.1 = sym own ∙ (own-store T (suc n) t (suc l) e here h.is_store).1 in
            let next : suc l ≡ m = cc in
            let second : h.is_store.1 ≡ w = cc in
            let at_j : h.earlier ≡ j = earlier l h in
            let first : (s : IsStoreBy T t l j) × AreJoined labels j (suc n) t s.1 w =
            subst (λ k. (s : IsStoreBy T t l k) × AreJoined labels k (suc n) t s.1 w) at_j (h.is_earlier, subst (AreJoined labels h.earlier (suc n) t (h.is_earlier.1)) second h.joined)
            in
            let s = first.0 in
            (from-told joined m l (event_line T.format (event T j))).1
            ((line-told T j l).1 (s.0, s.1, s.2, s.4), next, (joined-told T labels j (suc n) t l m s.0 e s.1 w s.2 s.4 own).1 first.1)

-- the line before the one that it left
before-some : (line : Option ℕ) (l : ℕ) → (line_before line ≡ Some l) ↔ (line ≡ Some (suc l))
before-some None l = (λ so. absurd (none-some l so), λ so. absurd (none-some (suc l) so))
before-some (Some k) l = elim (cases_eq k 0) [
  | inl none ↦ rw (eq-eqb k 0 none) (λ so. absurd (none-some l so), λ so. let e : k ≡ suc l = same_Some k (suc l) so in absurd (omega (arith, e, none)))
  | inr some ↦ rw (ne_eqb k 0 some) (
    λ so. let e : k - 1 ≡ l = same_Some (k - 1) l so in let f : k ≡ suc l = omega (arith, e, some) in ap Some f,
    λ so. let e : k ≡ suc l = same_Some k (suc l) so in let f : k - 1 ≡ l = omega (arith, e) in ap Some f,
  )
]

pub before-tells : (T : Recording) (labels : List (Option ℕ)) (u i : ℕ) (line before : Option ℕ) → before ≡ line_before line → Tells (GoesOn T labels) u i line → Tells (GoesFurther T labels) u i before
before-tells T labels u i line before is tells = rw is (record { told = λ l. (λ so. (tells.told (suc l)).0 ((before-some line l).0 so), λ h. (before-some line l).1 ((tells.told (suc l)).1 h)); own = λ t l h. tells.own t (suc l) h })

-- whether a store is lost or late
pub first-one : (P : ℕ → Type 0) (past a b : ℕ) → IsFirst P past a → IsFirst P past b → a ≡ b
first-one P past a b x y = go (cases_lt a b) (cases_lt b a)
  where
    go : (a < b) ⊎ (b ≤ a) → (b < a) ⊎ (a ≤ b) → a ≡ b
    go (inl below) either = absurd (y.none_before a below (x.has (omega (arith, y.within))))
    go (inr upto) (inl below) = absurd (x.none_before b below (y.has (omega (arith, x.within))))
    go (inr upto) (inr from) = omega arith

late-so : (w s n : ℕ) → (is_lost_or_late w s n ≡ true) ↔ ((2 ≤ w) ⊎ ((1 ≤ w) × (n < s)))
late-so w s n = go (cases_lt w 2) (cases_lt w 1) (cases_lt n s)
  where
    go : (w < 2) ⊎ (2 ≤ w) → (w < 1) ⊎ (1 ≤ w) → (n < s) ⊎ (s ≤ n) → (is_lost_or_late w s n ≡ true) ↔ ((2 ≤ w) ⊎ ((1 ≤ w) × (n < s)))
    go (inr two) one past = (λ _. inl two, λ _. rw (le-leb 2 w two) refl)
    go (inl below) (inr one) (inl past) = (λ _. inr (one, past), λ _. rw (lt-leb 2 w below, le-leb 1 w one, lt-ltb n s past) refl)
    go (inl below) (inr one) (inr within) = (
      λ so. absurd (false≢true (sym (let off : is_lost_or_late w s n ≡ false = rw (lt-leb 2 w below, le-leb 1 w one, le-ltb n s within) refl in off) ∙ so)),
      λ h. elim h [ inl two ↦ absurd (omega (arith, two, below)) | inr more ↦ absurd (omega (arith, more.1, within)) ],
    )
    go (inl below) (inl none) past = (
      λ so. absurd (false≢true (sym (let off : is_lost_or_late w s n ≡ false = rw (lt-leb 2 w below, lt-leb 1 w none) refl in off) ∙ so)),
      λ h. elim h [ inl two ↦ absurd (omega (arith, two, below)) | inr more ↦ absurd (omega (arith, more.0, none)) ],
    )

-- for so many fences a store waits till its safe place
pub waits-told : (T : Recording) (safe waited : List ℕ) (t l n s w : ℕ) → AreSafePlaces T safe → AreWaited T waited → slice_get safe n ≡ Some s → slice_get waited n ≡ Some w → IsStoreBy T t l (suc n) → w ≡ fences_between T t (suc n) s
waits-told T safe waited t l n s w are_safe are_waited at_s at_w h =
    let place : IsSafePlace T l (suc n) s = are_safe.each n s at_s l h.1 (store-act T t l (suc n) h) in
    let waits : (p : ℕ) × IsSafePlace T l (suc n) p × (w ≡ fences_between T (h.0).thread (suc n) p) = (are_waited.each n w at_w).store h.0 l h.1 h.2 h.4 in
    waits.2 ∙ ap (λ p. fences_between T (h.0).thread (suc n) p) (first-one _ (past_of T) waits.0 s waits.1 place) ∙ ap (λ u. fences_between T u (suc n) s) h.3

pub late-told : (T : Recording) (safe waited : List ℕ) (t l n s w : ℕ) → AreSafePlaces T safe → AreWaited T waited → slice_get safe n ≡ Some s → slice_get waited n ≡ Some w → IsStoreBy T t l (suc n) →
    (is_lost_or_late w s (length T.events) ≡ true) ↔ IsLostOrLate T t l (suc n)
late-told T safe waited t l n s w are_safe are_waited at_s at_w h = (λ so. (s, place, subst (λ x. (2 ≤ x) ⊎ ((1 ≤ x) × (length T.events < s))) fences ((late-so w s (length T.events)).0 so)), back)
  where
    place : IsSafePlace T l (suc n) s
    place = are_safe.each n s at_s l h.1 (store-act T t l (suc n) h)

    fences : w ≡ fences_between T t (suc n) s
    fences = waits-told T safe waited t l n s w are_safe are_waited at_s at_w h

    back : IsLostOrLate T t l (suc n) → is_lost_or_late w s (length T.events) ≡ true
    back x =
        let same : x.0 ≡ s = first-one _ (past_of T) x.0 s x.1 place in
        (late-so w s (length T.events)).1
        (subst (λ y. (2 ≤ y) ⊎ ((1 ≤ y) × (length T.events < s))) (sym fences) (subst (λ p. (2 ≤ fences_between T t (suc n) p) ⊎ ((1 ≤ fences_between T t (suc n) p) × (length T.events < p))) same x.2))

none-is : (line : Option ℕ) → is_some line ≡ false → line ≡ None
none-is None e = refl
none-is (Some k) e = absurd (false≢true (sym e))

-- where no event up to a place is one, and neither is the next
pub no-rest : (T : Recording) (labels : List (Option ℕ)) (n u : ℕ) (rest : Option ℕ) → is_some rest ≡ false → Tells (IsRest T labels) u (suc n) rest → ((t l i : ℕ) → i ≤ n → ¬ IsRest T labels t l i) → (t l i : ℕ) → i ≤ n + 1 → ¬ IsRest T labels t l i
no-rest T labels n u rest none tells before t l i upto h = elim (cases_eq i (suc n)) [
  | inl same ↦
      let here : IsRest T labels t l (suc n) = subst (IsRest T labels t l) same h in
      none-some l (sym (none-is rest none) ∙ (tells.told l).1 (subst (λ v. IsRest T labels v l (suc n)) (sym (tells.own t l here)) here))
  | inr apart ↦ before t l i (omega (arith, upto, apart)) h
]

pub rest-tells : (T : Recording) (labels : List (Option ℕ)) (safe waited : List ℕ) (n u s w events : ℕ) (b : Bool) (line rest : Option ℕ) → AreSafePlaces T safe → AreWaited T waited → slice_get safe n ≡ Some s → slice_get waited n ≡ Some w →
    events ≡ length T.events → b ≡ is_lost_or_late w s events → rest ≡ line_if b line → Tells (GoesOn T labels) u (suc n) line → Tells (IsRest T labels) u (suc n) rest
rest-tells T labels safe waited n u s w events b line rest are_safe are_waited at_s at_w count is made tells = record { told = λ l. rw made (go b refl l); own = λ t l h. tells.own t l h.0 }
  where
    late : (l : ℕ) → GoesOn T labels u l (suc n) → (b ≡ true) ↔ IsLostOrLate T u (suc l) (suc n)
    late l h = subst (λ (x : Bool). (x ≡ true) ↔ IsLostOrLate T u (suc l) (suc n)) (ap (is_lost_or_late w s) (sym count) ∙ sym is) (late-told T safe waited u (suc l) n s w are_safe are_waited at_s at_w h.is_store)

    go : (c : Bool) → b ≡ c → (l : ℕ) → (line_if c line ≡ Some l) ↔ IsRest T labels u l (suc n)
    go true e l = (λ so. let h = (tells.told l).0 so in (h, (late l h).0 e), λ h. (tells.told l).1 h.0)
    go false e l = (λ so. absurd (none-some l so), λ h. absurd (false≢true (sym e ∙ (late l h.0).1 h.1)))

-- it is an event of the trace
pub rest-bound : (T : Recording) (labels : List (Option ℕ)) (t l i : ℕ) → IsRest T labels t l i → (1 ≤ i) × (i ≤ length T.events)
rest-bound T labels t l i h = act-within T i (Stores (suc l) (h.0).is_store.1) (store-act T t (suc l) i (h.0).is_store)
