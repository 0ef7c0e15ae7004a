-- Stores that come after a mark.
use Rattle.std.proofs.Common.{◌≡◌, ◌≢◌, ℕ, zero, suc, ◌+◌, ◌<◌, ◌≤◌, ◌⊎◌, inl, inr, Bool, true, false, List, [], ◌∷◌, length, Option, Some, refl, sym, ap, subst, ◌∙◌, arith}
use Rattle.std.specs.Prelude.{◌↔◌, ◌==◌, ◌&&◌, not, if◌then◌else◌, nat_lt}
use Rattle.pmt_laws.specs.Prelude.{filter, list_any, Event, Op, Store, Clwb, ClflushOpt, Clflush, Sfence, Mfence, IsPersist, IsOrderedBefore, Written, line_of, Stores, Fences, Recording, IsAct, act, event}
use Rattle.std.proofs.lemmas.Bool.{and_from, and_parts, cases_lt, cases_eq, eq-eqb, eqb-true, ne_eqb, lt-ltb, ltb-true, false≢true}
use Rattle.std.proofs.lemmas.Option.{same_Some}
use Rattle.pmt_laws.proofs.Histories.{act-unique, act-within}
use Rattle.pmt_tables.specs.Flags.{is_kept_at}
use Rattle.pmt_causes.specs.Groups.{origin_of}
use Rattle.pmt_causes.proofs.ExactFailures.{origin-exact}
use Rattle.pmt_hints.specs.declared.after_mark.Storer.{Storer}
use Rattle.pmt_hints.specs.declared.named.Role.TheVariants.{First, Second}
use Rattle.pmt_hints.specs.declared.per_thread.PerThread.{PerThread}
use Rattle.pmt_hints.specs.Hints.{AreFlags, AreThose, IsNamed, IsStoreOf, IsStoredAfterMark}
use Rattle.pmt_hints.specs.Numbers.{IsAfterMark, MarkFrom, MarksFrom, after_mark, is_same, mark_elsewhere, noted_by, op_after, storer_at, of_thread}
use Rattle.pmt_hints.proofs.FlagLemmas.{flag-at}
use Rattle.pmt_hints.proofs.OpenAtLemmas.{filter-has, filter-rising}
use Rattle.pmt_hints.proofs.SplitLemmas.{origin-same}
use Rattle.pmt_hints.proofs.StepLemmas.{Decides, IsLast, last-none, last-step}
use Rattle.pmt_hints.proofs.StoredAfterLemmas.{FencesUpTo}
use Rattle.pmt_hints.proofs.TellingLemmas.{not-true, not-true-false}

-- event k is a mark of thread t
abbrev pub IsMarkBy : Recording → ℕ → ℕ → Type 0
IsMarkBy T t k = IsNamed T Second k × ((e : Event) × (event T k ≡ Some e) × (e.thread ≡ t))

abbrev pub RecentUpTo : Recording → ℕ → PerThread → Type 0
RecentUpTo T n recent = (t : ℕ) → t < 256 → IsLast (IsMarkBy T t) n (of_thread recent t)

abbrev pub MarksUpTo : Recording → List (Option ℕ) → ℕ → MarksFrom → Type 0
MarksUpTo T labels n marks = (s : Storer) (y : ℕ) → IsLast (MarkFrom T labels s y) n (mark_elsewhere marks s y)

same-parts : (r s : Storer) → is_same r s ≡ true → (r.thread ≡ s.thread) × (r.place ≡ s.place)
same-parts r s e = let both = and_parts _ _ e in (eqb-true r.thread s.thread both.0, origin-exact r.place s.place both.1)

parts-same : (r s : Storer) → r.thread ≡ s.thread → r.place ≡ s.place → is_same r s ≡ true
parts-same r s thread place = rw (sym thread, sym place) (and_from _ _ (eq-eqb r.thread r.thread refl) (origin-same r.place))

event-inside : (T : Recording) (i : ℕ) (e : Event) → event T i ≡ Some e → (1 ≤ i) × (i ≤ length T.events)
event-inside T i e at = act-within T i (act T.format e) (e, at, refl)

-- event i of this op is no store
not-stored : (T : Recording) (labels : List (Option ℕ)) (s : Storer) (y i u : ℕ) (o : Op) → event T i ≡ Some (record { thread = u; op = o }) → ((w : Written) → o ≢ Store w) → MarkFrom T labels s y i → ⊥
not-stored T labels s y i u o here other m = other m.0 (ap (λ (d : Event). d.op) (same_Some _ _ (sym here ∙ m.1)))

module _ (T : Recording) (labels : List (Option ℕ)) (n u : ℕ) (is_mark : Bool) (told : (is_mark ≡ true) ↔ IsNamed T Second (suc n)) where
  abbrev r : Storer
  r = storer_at labels (suc n) u

  mark-store : (s : Storer) (y x : ℕ) (w : Written) → event T (suc n) ≡ Some (record { thread = u; op = Store w }) → (b : Bool) → is_mark ≡ b → Decides (MarkFrom T labels s y) (suc n) x (noted_by b r (Store w) (suc n) s y x)
  mark-store s y x w here false off = inr (λ m. false≢true (sym off ∙ told.1 m.2), refl)
  mark-store s y x w here true on = go (is_same r s) refl (cases_eq w.addr y)
    where
      own : (m : MarkFrom T labels s y (suc n)) → (w ≡ m.0) × (u ≡ s.thread)
      own m = let both = same_Some _ _ (sym here ∙ m.1) in let op : Store w ≡ Store m.0 = ap (λ (d : Event). d.op) both in (cc, ap (λ (d : Event). d.thread) both)

      go : (b : Bool) → is_same r s ≡ b → (w.addr ≡ y) ⊎ (w.addr ≢ y) → Decides (MarkFrom T labels s y) (suc n) x (if b then (if w.addr == y then x else suc n) else x)
      go true same (inl e) = inr (λ m. m.4 (ap (λ (v : Written). v.addr) (sym (own m).0) ∙ e), rw (eq-eqb w.addr y e) refl)
      go true same (inr apart) =
          let it = same-parts r s same in
          inl (
            (w, subst (λ t. IsStoreOf T t w (suc n)) it.0 here, told.0 on, ap (origin_of labels (suc n)) (sym it.0) ∙ it.1, apart),
            rw (ne_eqb w.addr y apart) refl,
          )
      go false other either = inr (
        λ m.
            let it = own m in
            false≢true (sym other ∙ parts-same r s it.1 (ap (origin_of labels (suc n)) it.1 ∙ m.3)),
        refl,
      )

  mark-decides : (s : Storer) (y x number : ℕ) (o : Op) → number ≡ suc n → event T (suc n) ≡ Some (record { thread = u; op = o }) → Decides (MarkFrom T labels s y) (suc n) x (noted_by is_mark (storer_at labels number u) o number s y x)
  mark-decides s y x number o same here = rw same (by_op o here is_mark refl)
    where
      none : (p : Op) → event T (suc n) ≡ Some (record { thread = u; op = p }) → ((w : Written) → p ≢ Store w) → (new : ℕ) → new ≡ x → Decides (MarkFrom T labels s y) (suc n) x new
      none p here other new is = inr (not-stored T labels s y (suc n) u p here other, is)

      by_op : (p : Op) → event T (suc n) ≡ Some (record { thread = u; op = p }) → (b : Bool) → is_mark ≡ b → Decides (MarkFrom T labels s y) (suc n) x (noted_by b r p (suc n) s y x)
      by_op (Store w) here b is = mark-store s y x w here b is
      by_op (Clwb a) here true is = none (Clwb a) here (λ w e. cc) x refl
      by_op (Clwb a) here false is = none (Clwb a) here (λ w e. cc) x refl
      by_op (ClflushOpt a) here true is = none (ClflushOpt a) here (λ w e. cc) x refl
      by_op (ClflushOpt a) here false is = none (ClflushOpt a) here (λ w e. cc) x refl
      by_op (Clflush a) here true is = none (Clflush a) here (λ w e. cc) x refl
      by_op (Clflush a) here false is = none (Clflush a) here (λ w e. cc) x refl
      by_op Sfence here true is = none Sfence here (λ w e. cc) x refl
      by_op Sfence here false is = none Sfence here (λ w e. cc) x refl
      by_op Mfence here true is = none Mfence here (λ w e. cc) x refl
      by_op Mfence here false is = none Mfence here (λ w e. cc) x refl
      by_op (IsPersist A) here true is = none (IsPersist A) here (λ w e. cc) x refl
      by_op (IsPersist A) here false is = none (IsPersist A) here (λ w e. cc) x refl
      by_op (IsOrderedBefore A B) here true is = none (IsOrderedBefore A B) here (λ w e. cc) x refl
      by_op (IsOrderedBefore A B) here false is = none (IsOrderedBefore A B) here (λ w e. cc) x refl

  pub marks-up : (number : ℕ) (o : Op) (old new : MarksFrom) → number ≡ suc n → event T (suc n) ≡ Some (record { thread = u; op = o }) →
      ((s : Storer) (y : ℕ) → mark_elsewhere new s y ≡ noted_by is_mark (storer_at labels number u) o number s y (mark_elsewhere old s y)) → MarksUpTo T labels n old → MarksUpTo T labels (n + 1) new
  marks-up number o old new same here noted x =
      let next : suc n ≡ n + 1 = omega arith in
      subst (λ m. MarksUpTo T labels m new) next
      (λ s y. subst (IsLast (MarkFrom T labels s y) (suc n)) (sym (noted s y)) (last-step (MarkFrom T labels s y) n _ _ (mark-decides s y (mark_elsewhere old s y) number o same here) (x s y)))

  pub recent-up : (number : ℕ) (o : Op) (old new : PerThread) → number ≡ suc n → event T (suc n) ≡ Some (record { thread = u; op = o }) → ((t : ℕ) → t < 256 → of_thread new t ≡ (if is_mark && (u == t) then number else of_thread old t)) → RecentUpTo T n old →
      RecentUpTo T (n + 1) new
  recent-up number o old new same here noted x =
      let next : suc n ≡ n + 1 = omega arith in
      subst (λ m. RecentUpTo T m new) next (λ t small. subst (IsLast (IsMarkBy T t) (suc n)) (sym (noted t small)) (last-step (IsMarkBy T t) n _ _ (decides t (of_thread old t) is_mark refl (cases_eq u t)) (x t small)))
    where
      own : (t : ℕ) → IsMarkBy T t (suc n) → u ≡ t
      own t m = ap (λ (d : Event). d.thread) (same_Some _ _ (sym here ∙ m.1.1)) ∙ m.1.2

      decides : (t x : ℕ) (b : Bool) → is_mark ≡ b → (u ≡ t) ⊎ (u ≢ t) → Decides (IsMarkBy T t) (suc n) x (if b && (u == t) then number else x)
      decides t x false off either = inr (λ m. false≢true (sym off ∙ told.1 m.0), refl)
      decides t x true on (inl e) = inl ((told.0 on, (record { thread = u; op = o }, here, e)), rw (eq-eqb u t e) same)
      decides t x true on (inr apart) = inr (λ m. apart (own t m), rw (ne_eqb u t apart) refl)

  -- by the last fence, the last mark, and the last one elsewhere
  module _ (fences recent : PerThread) (marks : MarksFrom) (small : u < 256) (f : FencesUpTo T n fences) (l : RecentUpTo T n recent) (x : MarksUpTo T labels n marks) where
    fence : IsLast (λ k. IsAct T k (Fences u)) n (of_thread fences u)
    fence = f u small

    after-there : (w : Written) → event T (suc n) ≡ Some (record { thread = u; op = Store w }) → (b : Bool) → is_mark ≡ b → after_mark fences recent marks b r (Store w) ≡ true → IsAfterMark T labels (suc n)
    after-there w here true is so = absurd (false≢true so)
    after-there w here false is so = record {
      thread = u;
      store = w;
      mark = mark_elsewhere marks r w.addr;
      is_store = here;
      is_mark = last.has (omega (arith, later));
      order = omega (arith, last.within);
      still_open = λ between. fence.none_after between.0 (omega (arith, later, between.1)) (omega (arith, between.2)) between.3;
      no_mark = λ h. false≢true (sym is ∙ told.1 h);
    }
      where
        last : IsLast (MarkFrom T labels r w.addr) n (mark_elsewhere marks r w.addr)
        last = x r w.addr

        later : of_thread fences u < mark_elsewhere marks r w.addr
        later = ltb-true (of_thread fences u) (mark_elsewhere marks r w.addr) (and_parts (nat_lt (of_thread fences u) (of_thread recent u)) (nat_lt (of_thread fences u) (mark_elsewhere marks r w.addr)) so).1

    after-back : (w : Written) → event T (suc n) ≡ Some (record { thread = u; op = Store w }) → (h : IsAfterMark T labels (suc n)) → after_mark fences recent marks is_mark r (Store w) ≡ true
    after-back w here h = go is_mark refl
      where
        both : ◌≡◌ {A = Event} (record { thread = u; op = Store w }) (record { thread = h.thread; op = Store h.store })
        both = same_Some _ _ (sym here ∙ h.is_store)

        own : h.thread ≡ u
        own = sym (ap (λ (d : Event). d.thread) both)

        what : h.store ≡ w
        what = let op : Store w ≡ Store h.store = ap (λ (d : Event). d.op) both in cc

        mark : MarkFrom T labels r w.addr h.mark
        mark = subst (λ v. MarkFrom T labels r v h.mark) (ap (λ (v : Written). v.addr) what) (subst (λ t. MarkFrom T labels (storer_at labels (suc n) t) h.store.addr h.mark) own h.is_mark)

        last : IsLast (MarkFrom T labels r w.addr) n (mark_elsewhere marks r w.addr)
        last = x r w.addr

        upto : h.mark ≤ mark_elsewhere marks r w.addr
        upto = elim (cases_lt (mark_elsewhere marks r w.addr) h.mark) [ inl above ↦ absurd (last.none_after h.mark above (omega (arith, h.order)) mark) | inr most ↦ most ]

        recently : h.mark ≤ of_thread recent u
        recently = elim (cases_lt (of_thread recent u) h.mark) [
          | inl above ↦ absurd ((l u small).none_after h.mark above (omega (arith, h.order)) (mark.2, (record { thread = u; op = Store mark.0 }, mark.1, refl)))
          | inr most ↦ most
        ]

        not_fence : IsAct T h.mark (Fences u) → ⊥
        not_fence g = let e = act-unique T h.mark (Stores (line_of T.format mark.0.addr) mark.0) (Fences u) (record { thread = u; op = Store mark.0 }, mark.1, refl) g in cc

        later : of_thread fences u < h.mark
        later = elim (cases_lt (of_thread fences u) h.mark) [
          | inl below ↦ below
          | inr past ↦
              let positive = (event-inside T h.mark (record { thread = u; op = Store mark.0 }) mark.1).0 in
              let is = fence.has (omega (arith, past, positive)) in
              elim (cases_eq (of_thread fences u) h.mark) [
                | inl e ↦ absurd (not_fence (subst (λ k. IsAct T k (Fences u)) e is))
                | inr apart ↦ absurd (h.still_open (of_thread fences u, omega (arith, past, apart), omega (arith, fence.within), subst (λ t. IsAct T (of_thread fences u) (Fences t)) (sym own) is))
              ]
        ]

        go : (b : Bool) → is_mark ≡ b → after_mark fences recent marks b r (Store w) ≡ true
        go true is = absurd (h.no_mark (told.0 is))
        go false is = and_from _ _ (lt-ltb (of_thread fences u) (of_thread recent u) (omega (arith, later, recently))) (lt-ltb (of_thread fences u) (mark_elsewhere marks r w.addr) (omega (arith, later, upto)))

    pub after-mark-told : (number : ℕ) (o : Op) (b : Bool) → number ≡ suc n → event T (suc n) ≡ Some (record { thread = u; op = o }) → b ≡ after_mark fences recent marks is_mark (storer_at labels number u) o → (b ≡ true) ↔ IsAfterMark T labels (suc n)
    after-mark-told number o b same here tells = rw (tells, same) (by_op o here)
      where
        none : (p : Op) → event T (suc n) ≡ Some (record { thread = u; op = p }) → ((w : Written) → p ≢ Store w) → op_after fences recent marks r p ≡ false → (after_mark fences recent marks is_mark r p ≡ true) ↔ IsAfterMark T labels (suc n)
        none p here other off = (
          λ so. absurd (false≢true (sym off ∙ (and_parts (not is_mark) (op_after fences recent marks r p) so).1)),
          λ h. absurd (other h.store (ap (λ (d : Event). d.op) (same_Some _ _ (sym here ∙ h.is_store)))),
        )

        by_op : (p : Op) → event T (suc n) ≡ Some (record { thread = u; op = p }) → (after_mark fences recent marks is_mark r p ≡ true) ↔ IsAfterMark T labels (suc n)
        by_op (Store w) here = (λ so. after-there w here is_mark refl so, after-back w here)
        by_op (Clwb a) here = none (Clwb a) here (λ w e. cc) refl
        by_op (ClflushOpt a) here = none (ClflushOpt a) here (λ w e. cc) refl
        by_op (Clflush a) here = none (Clflush a) here (λ w e. cc) refl
        by_op Sfence here = none Sfence here (λ w e. cc) refl
        by_op Mfence here = none Mfence here (λ w e. cc) refl
        by_op (IsPersist A) here = none (IsPersist A) here (λ w e. cc) refl
        by_op (IsOrderedBefore A B) here = none (IsOrderedBefore A B) here (λ w e. cc) refl

pub marks-start : (T : Recording) (labels : List (Option ℕ)) (marks : MarksFrom) → marks.entries ≡ [] → MarksUpTo T labels 0 marks
marks-start T labels marks none = λ s y. rw none (last-none (MarkFrom T labels s y))

pub recent-start : (T : Recording) (recent : PerThread) → ((t : ℕ) → t < 256 → of_thread recent t ≡ 0) → RecentUpTo T 0 recent
recent-start T recent all = λ t small. subst (IsLast (IsMarkBy T t) 0) (sym (all t small)) (last-none (IsMarkBy T t))

pub after-mark-bound : (T : Recording) (labels : List (Option ℕ)) (i : ℕ) → IsAfterMark T labels i → (1 ≤ i) × (i ≤ length T.events)
after-mark-bound T labels i h = event-inside T i (record { thread = h.thread; op = Store h.store }) h.is_store

-- what comes after a mark, and is in no first range
after-of : (T : Recording) (labels : List (Option ℕ)) (i : ℕ) → IsStoredAfterMark T labels i → IsAfterMark T labels i
after-of T labels i h = record {
  thread = h.thread;
  store = h.second;
  mark = h.mark;
  is_store = h.is_second;
  is_mark = (h.first, h.is_first, h.is_mark, h.same_place, h.elsewhere);
  order = h.order;
  still_open = h.still_open;
  no_mark = h.no_mark;
}

of-after : (T : Recording) (labels : List (Option ℕ)) (i : ℕ) → IsAfterMark T labels i → ¬ IsNamed T First i → IsStoredAfterMark T labels i
of-after T labels i h no_first = record {
  thread = h.thread;
  mark = h.mark;
  first = h.is_mark.0;
  second = h.store;
  is_first = h.is_mark.1;
  is_second = h.is_store;
  is_mark = h.is_mark.2;
  order = h.order;
  still_open = h.still_open;
  same_place = h.is_mark.3;
  elsewhere = h.is_mark.4;
  no_mark = h.no_mark;
  no_first = no_first;
}

-- there is no mark
pub none-marked : (T : Recording) (labels : List (Option ℕ)) (flags slice : List Bool) (numbers : List ℕ) → AreFlags (IsNamed T Second) (length T.events) flags → slice ≡ flags → list_any (λ (b : Bool). b) slice ≡ false → numbers ≡ [] →
    AreThose (IsStoredAfterMark T labels) numbers
none-marked T labels flags slice numbers x same none is = rw is (record { rising = tt; just = λ i. (λ has. absurd has, λ h. absurd (never i h)) })
  where
    off : (bs : List Bool) (i : ℕ) → list_any (λ (b : Bool). b) bs ≡ false → is_kept_at bs i ≡ true → ⊥
    off bs zero none e = false≢true e
    off [] (suc k) none e = false≢true e
    off (true ∷ bs) (suc k) none e = false≢true (sym none)
    off (false ∷ bs) (suc zero) none e = false≢true e
    off (false ∷ bs) (suc (suc k)) none e = off bs (suc k) none e

    never : (i : ℕ) → IsStoredAfterMark T labels i → ⊥
    never i h =
        let it = event-inside T h.mark (record { thread = h.thread; op = Store h.first }) h.is_first in
        off flags h.mark (ap (list_any (λ (b : Bool). b)) (sym same) ∙ none) ((flag-at (IsNamed T Second) (length T.events) flags x h.mark it.0 it.1).1 h.is_mark)

-- nothing comes after one
pub none-after : (T : Recording) (labels : List (Option ℕ)) (numbers : List ℕ) → AreThose (IsAfterMark T labels) numbers → length numbers ≡ 0 → AreThose (IsStoredAfterMark T labels) numbers
none-after T labels (k ∷ ks) x none = absurd (omega (arith, none))
none-after T labels [] x none = record { rising = tt; just = λ i. (λ has. absurd has, λ h. absurd ((x.just i).1 (after-of T labels i h))) }

-- all but those in a first range
pub after-others : (T : Recording) (labels : List (Option ℕ)) (flags : List Bool) (numbers others : List ℕ) → AreThose (IsAfterMark T labels) numbers → AreFlags (IsNamed T First) (length T.events) flags → others ≡ filter (λ (i : ℕ). not (is_kept_at flags i)) numbers →
    AreThose (IsStoredAfterMark T labels) others
after-others T labels flags numbers others x first made = rw made (record {
  rising = filter-rising off 0 numbers x.rising;
  just = λ i. (
    λ h. let both = (filter-has off numbers i).0 h in let after = (x.just i).0 both.0 in of-after T labels i after (λ p. false≢true (sym (not-true-false _ both.1) ∙ (so i after).1 p)),
    λ h. let after = after-of T labels i h in (filter-has off numbers i).1 ((x.just i).1 after, ap not (not-true _ (λ p. h.no_first ((so i after).0 p)))),
  );
})
  where
    off : ℕ → Bool
    off i = not (is_kept_at flags i)

    so : (i : ℕ) → IsAfterMark T labels i → (is_kept_at flags i ≡ true) ↔ IsNamed T First i
    so i h = let it = after-mark-bound T labels i h in flag-at (IsNamed T First) (length T.events) flags first i it.0 it.1
