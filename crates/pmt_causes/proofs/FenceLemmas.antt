-- The fences of each thread, event by event, and how many a store waits for.
use Rattle.std.proofs.Common.{◌≡◌, ℕ, suc, ◌+◌, ◌-◌, ◌<◌, ◌≤◌, ◌⊎◌, inl, inr, Bool, true, false, cond, List, [], ◌∷◌, ◌++◌, length, map, min, get_or, set, get_or-set_same, get_or-set_other, Some, refl, sym, ap, subst, ◌∙◌, arith}
use Rattle.std.specs.Prelude.{if◌then◌else◌, ◌&&◌, ◌==◌, nat_le, slice_get, replicate}
use Rattle.std.proofs.lemmas.Bool.{cases_lt, cases_eq, eq-eqb, ne_eqb, le-leb, lt-leb}
use Rattle.std.proofs.lemmas.List.{length-set, get_or-replicate, get_or-map, map-set}
use Rattle.std.proofs.lemmas.List.Elements.{All-push}
use Rattle.std.proofs.lemmas.List.Sums.{sum_by_push}
use Rattle.std.proofs.lemmas.List.Sorted.{IsNonDecreasingBy-push, IsNonDecreasingBy-short}
use Rattle.pmt_laws.specs.Prelude.{Event, Op, Store, Clwb, ClflushOpt, Clflush, Sfence, Mfence, IsPersist, IsOrderedBefore, Written, line_of, Stores, Recording, event, act, act_of, IsAct, count_by}
use Rattle.pmt_explain.specs.Following.{IsSafePlace, TellsSafe}
use Rattle.pmt_causes.specs.Late.{counted, is_fence, is_fence_of, fences_between, IsWaited, AreFencesBy, AreFences, list_by, with_fence, wait_of}
use Rattle.pmt_causes.proofs.CountedLemmas.{counted-between}

abbrev one : Bool → ℕ
one b = cond b 1 0

-- no fence yet
none-yet : (T : Recording) (t : ℕ) → AreFencesBy T t 0 []
none-yet T t = record {
  order = IsNonDecreasingBy-short (λ k. k) [] (omega arith);
  within = λ k d below. absurd (omega arith);
  each = λ q. let e : min q 0 ≡ 0 = omega arith in sym (ap (counted (is_fence_of T t)) e);
}

pub fences-start : (T : Recording) (lists : List (List ℕ)) → lists ≡ replicate 256 [] → AreFences T 0 lists
fences-start T lists is = rw is (record {
  size = refl;
  each = λ t small. subst (AreFencesBy T t 0) (sym (get_or-replicate 256 t [] [] small)) (none-yet T t);
})

-- one more event, which is no fence of the thread
stays : (T : Recording) (t n : ℕ) (list : List ℕ) → is_fence_of T t (suc n) ≡ false → AreFencesBy T t n list → AreFencesBy T t (suc n) list
stays T t n list no_fence x = record {
  order = x.order;
  within = λ k d below. omega (arith, x.within k d below);
  each = λ q. x.each q ∙ go q (cases_lt n q);
}
  where
    f : ℕ → Bool
    f = is_fence_of T t

    go : (q : ℕ) → (n < q) ⊎ (q ≤ n) → counted f (min q n) ≡ counted f (min q (suc n))
    go q (inl past) =
        let old : min q n ≡ n = omega arith in
        let new : min q (suc n) ≡ suc n = omega arith in
        let more : counted f (suc n) ≡ counted f n = rw no_fence (omega arith) in
        ap (counted f) old ∙ sym more ∙ sym (ap (counted f) new)
    go q (inr early) = let e : min q n ≡ min q (suc n) = omega arith in ap (counted f) e

-- one that is
goes : (T : Recording) (t n : ℕ) (list : List ℕ) → is_fence_of T t (suc n) ≡ true → AreFencesBy T t n list → AreFencesBy T t (suc n) (list ++ suc n ∷ [])
goes T t n list fence x = record {
  order = IsNonDecreasingBy-push (λ k. k) list (suc n) x.order (λ d some. omega (arith, x.within (length list - 1) d (omega arith)));
  within = All-push (λ k. k ≤ suc n) list (suc n) (λ k d below. omega (arith, x.within k d below)) (omega arith);
  each = λ q. sum_by_push (λ k. cond (nat_le k q) 1 0) list (suc n) ∙ go q (cases_lt n q);
}
  where
    f : ℕ → Bool
    f = is_fence_of T t

    go : (q : ℕ) → (n < q) ⊎ (q ≤ n) → count_by (λ k. nat_le k q) list + one (nat_le (suc n) q) ≡ counted f (min q (suc n))
    go q (inl past) =
        let old : min q n ≡ n = omega arith in
        let new : min q (suc n) ≡ suc n = omega arith in
        let more : counted f (suc n) ≡ counted f n + 1 = rw fence refl in
        let here : one (nat_le (suc n) q) ≡ 1 = rw (le-leb (suc n) q (omega arith)) refl in
        omega (arith, x.each q, here, ap (counted f) old, ap (counted f) new, more)
    go q (inr early) =
        let same : min q n ≡ min q (suc n) = omega arith in
        let here : one (nat_le (suc n) q) ≡ 0 = rw (lt-leb (suc n) q (omega arith)) refl in
        omega (arith, x.each q, here, ap (counted f) same)

-- one more event
pub fences-next : (T : Recording) (n number : ℕ) (e : Event) (old new : List (List ℕ)) → number ≡ suc n → slice_get T.events n ≡ Some e →
    new ≡ with_fence e.thread e.op number old → AreFences T n old → AreFences T (suc n) new
fences-next T n number e old new same is noted x = rw noted (rw same (go (is_fence e.op) refl))
  where
    t : ℕ
    t = e.thread

    tells : (u : ℕ) → is_fence_of T u (suc n) ≡ ((t == u) && is_fence e.op)
    tells u = rw is refl

    go : (b : Bool) → is_fence e.op ≡ b → AreFences T (suc n) (if b then set old t (list_by old t ++ suc n ∷ []) else old)
    go false no_fence = record { size = x.size; each = λ u within. stays T u n (list_by old u) (tells u ∙ ap (λ b. (t == u) && b) no_fence ∙ never (t == u)) (x.each u within) }
      where
        never : (b : Bool) → (b && false) ≡ false
        never true = refl
        never false = refl
    go true fence = record {
      size = length-set old t (list_by old t ++ suc n ∷ []) ∙ x.size;
      each = λ u within. elim (cases_eq t u) [
        | inl here ↦
            let value : list_by (set old t (list_by old t ++ suc n ∷ [])) t ≡ list_by old t ++ suc n ∷ [] = get_or-set_same old t (list_by old t ++ suc n ∷ []) [] (omega (arith, x.size, here, within)) in
            let yes_fence : is_fence_of T t (suc n) ≡ true = tells t ∙ rw (eq-eqb t t refl) fence in
            subst (λ v. AreFencesBy T v (suc n) (list_by (set old t (list_by old t ++ suc n ∷ [])) v)) here
            (subst (AreFencesBy T t (suc n)) (sym value) (goes T t n (list_by old t) yes_fence (x.each t (omega (arith, here, within)))))
        | inr apart ↦
            let value : list_by (set old t (list_by old t ++ suc n ∷ [])) u ≡ list_by old u = get_or-set_other old t u (list_by old t ++ suc n ∷ []) [] (λ e. apart (sym e)) in
            let no_fence : is_fence_of T u (suc n) ≡ false = tells u ∙ rw (ne_eqb t u apart) refl in
            subst (AreFencesBy T u (suc n)) (sym value) (stays T u n (list_by old u) no_fence (x.each u within))
      ];
    }

-- how many fences a store waits for
pub waited-told : (T : Recording) (k i : ℕ) (e : Event) (p : ℕ) (list : List ℕ) → i ≡ suc k → slice_get T.events k ≡ Some e → TellsSafe T (suc k) p → AreFencesBy T e.thread (length T.events) list →
    IsWaited T (suc k) (wait_of list e.op i p)
waited-told T k i e p list same is safe x = rw same (record { store = store e.op refl; other = other e.op refl })
  where
    n : ℕ
    n = length T.events

    f : ℕ → Bool
    f = is_fence_of T e.thread

    waits : count_by (λ j. nat_le j (p - 1)) list - count_by (λ j. nat_le j (suc k)) list ≡ fences_between T e.thread (suc k) p
    waits = omega (arith, x.each (p - 1), x.each (suc k), counted-between f (suc k) p n)

    at : (l : ℕ) (w : Written) → act T.format e ≡ Stores l w → IsAct T (suc k) (Stores l w)
    at l w stores = (e, is, stores)

    own : (d : Event) → event T (suc k) ≡ Some d → e ≡ d
    own d here = let both : Some e ≡ Some d = sym is ∙ here in cc

    by_op : (o : Op) → e.op ≡ o → (l : ℕ) (w : Written) → act_of T.format e.thread o ≡ Stores l w → (q : ℕ) × IsSafePlace T l (suc k) q × (wait_of list o (suc k) p ≡ fences_between T e.thread (suc k) q)
    by_op (Store v) e_op l w mine = (p, safe l w (at l w (ap (act_of T.format e.thread) e_op ∙ mine)), waits)
    by_op (Clwb a) e_op l w mine = absurd (cc)
    by_op (ClflushOpt a) e_op l w mine = absurd (cc)
    by_op (Clflush a) e_op l w mine = absurd (cc)
    by_op Sfence e_op l w mine = absurd (cc)
    by_op Mfence e_op l w mine = absurd (cc)
    by_op (IsPersist r) e_op l w mine = absurd (cc)
    by_op (IsOrderedBefore r q) e_op l w mine = absurd (cc)

    store : (o : Op) → e.op ≡ o → (d : Event) (l : ℕ) (w : Written) → event T (suc k) ≡ Some d → act T.format d ≡ Stores l w →
        (q : ℕ) × IsSafePlace T l (suc k) q × (wait_of list o (suc k) p ≡ fences_between T d.thread (suc k) q)
    store o e_op d l w here stores =
        let same_event = own d here in
        let mine : act_of T.format e.thread o ≡ Stores l w = sym (ap (act_of T.format e.thread) e_op) ∙ ap (act T.format) same_event ∙ stores in
        subst (λ (c : Event). (q : ℕ) × IsSafePlace T l (suc k) q × (wait_of list o (suc k) p ≡ fences_between T c.thread (suc k) q)) same_event (by_op o e_op l w mine)

    other : (o : Op) → e.op ≡ o → ((l : ℕ) (w : Written) → ¬ IsAct T (suc k) (Stores l w)) → wait_of list o (suc k) p ≡ 0
    other (Store v) e_op none = absurd (none (line_of T.format v.addr) v (at (line_of T.format v.addr) v (ap (act_of T.format e.thread) e_op)))
    other (Clwb a) e_op none = refl
    other (ClflushOpt a) e_op none = refl
    other (Clflush a) e_op none = refl
    other Sfence e_op none = refl
    other Mfence e_op none = refl
    other (IsPersist r) e_op none = refl
    other (IsOrderedBefore r q) e_op none = refl

-- as the vectors of the lists have it
pub noted-in : {V : Type 0} (items : V → List ℕ) (fs : List V) (t i : ℕ) (o : Op) (old new : V) → t < length fs → old ≡ get_or fs t old → items new ≡ items old ++ i ∷ [] → is_fence o ≡ true →
    map items (set fs t new) ≡ with_fence t o i (map items fs)
noted-in items fs t i o old new within is more fence =
    let own : list_by (map items fs) t ≡ items old = get_or-map items fs t old [] within ∙ ap items (sym is) in
    map-set items fs t new ∙ ap (set (map items fs) t) (more ∙ ap (λ xs. xs ++ i ∷ []) (sym own)) ∙ rw fence refl

pub fence-op : (o : Op) → (o ≡ Sfence) ⊎ (o ≡ Mfence) → is_fence o ≡ true
fence-op o (inl e) = rw e refl
fence-op o (inr e) = rw e refl

-- how many fences of each thread came so far
pub passed-now : (T : Recording) (t n number : ℕ) (list : List ℕ) → number ≡ suc n → suc n ≤ length T.events → AreFencesBy T t (length T.events) list →
    count_by (λ k. nat_le k number) list ≡ counted (is_fence_of T t) (suc n)
passed-now T t n number list same within x =
    let upto : min (suc n) (length T.events) ≡ suc n = omega arith in
    ap (λ (j : ℕ). count_by (λ k. nat_le k j) list) same ∙ x.each (suc n) ∙ ap (counted (is_fence_of T t)) upto

pub passed-own : (T : Recording) (n number : ℕ) (e : Event) (list : List ℕ) (from : ℕ) → number ≡ suc n → slice_get T.events n ≡ Some e → suc n ≤ length T.events →
    AreFencesBy T e.thread (length T.events) list → from ≡ counted (is_fence_of T e.thread) n → count_by (λ k. nat_le k number) list ≡ from + (if is_fence e.op then 1 else 0)
passed-own T n number e list from same is within x value =
    let fence : is_fence_of T e.thread (suc n) ≡ is_fence e.op = rw is (rw (eq-eqb e.thread e.thread refl) refl) in
    passed-now T e.thread n number list same within x
    ∙ ap (λ (b : Bool). counted (is_fence_of T e.thread) n + (if b then 1 else 0)) fence
    ∙ ap (λ (m : ℕ). m + (if is_fence e.op then 1 else 0)) (sym value)

pub passed-next : (T : Recording) (n : ℕ) (e : Event) (passed : List ℕ) (from u d : ℕ) → slice_get T.events n ≡ Some e → e.thread < length passed → from ≡ counted (is_fence_of T e.thread) (suc n) →
    ((t d : ℕ) → t < 256 → get_or passed t d ≡ counted (is_fence_of T t) n) → u < 256 → get_or (set passed e.thread from) u d ≡ counted (is_fence_of T u) (suc n)
passed-next T n e passed from u d is inside value before within = elim (cases_eq e.thread u) [
  | inl same ↦ subst (λ (v : ℕ). get_or (set passed e.thread from) v d ≡ counted (is_fence_of T v) (suc n)) same (get_or-set_same passed e.thread from d inside ∙ value)
  | inr apart ↦
      let no_fence : is_fence_of T u (suc n) ≡ false = rw is (rw (ne_eqb e.thread u apart) refl) in
      let more : counted (is_fence_of T u) (suc n) ≡ counted (is_fence_of T u) n = rw no_fence (omega arith) in
      get_or-set_other passed e.thread u from d (λ e. apart (sym e)) ∙ before u d within ∙ sym more
]
