-- Redundant flushes, by the front and the open mark just before them.
use Rattle.std.proofs.Common.{◌≡◌, ◌≢◌, ℕ, zero, suc, ◌-◌, ◌<◌, ◌≤◌, ◌⊎◌, inl, inr, ◌==◌, ◌&&◌, Bool, true, false, max, List, ◌∷◌, length, Option, Some, None, refl, sym, ap, subst, ◌∙◌, arith, eqb-true, eq-eqb, unwrap_or}
use Rattle.std.proofs.lemmas.Bool.{true≢false, cases_order, cases_lt, eqb-false, and_parts, and_from}
use Rattle.std.specs.Prelude.{if◌then◌else◌}
use Rattle.std.proofs.lemmas.Bool.Decides.{nat_tests}
use Rattle.pmt_laws.specs.Prelude.{Written, Act, Stores, Flushes, Clflushes, Fences, count, Recording, IsAct, history, count_at, front, front_at, open_mark, IsSafe, IsCovered, IsRedundantFlush, IsRedundantClflush}
use Rattle.pmt_laws.specs.ModelLaws.{RedundantFlushByFronts, RedundantClflushByFronts}
use Rattle.pmt_laws.proofs.Histories.{act-unique, act-within, history-act, history-step, count-mono, front-le-count}
use Rattle.pmt_laws.proofs.BoxLemmas.{vectors_are_a_box}
use Rattle.pmt_laws.proofs.OverwrittenLemmas.{equal_or_before, before-one}

-- a store is safe where its rank is at most the front
safe-from_front : (T : Recording) (l n j : ℕ) → count_at T l j ≤ front_at T l n → IsSafe T l n j
safe-from_front T l n j below s ends =
    let box = (vectors_are_a_box (history T n) s.persisted).0 (s, ends, λ k. refl) l in
    omega (arith, box.0)

-- the rank of a safe store is at most the front
front-from_safe : (T : Recording) (l n j : ℕ) → IsSafe T l n j → count_at T l j ≤ front_at T l n
front-from_safe T l n j safe =
    let fronts : ℕ → ℕ = λ k. front k (history T n) in
    let run = (vectors_are_a_box (history T n) fronts).1 (λ k. (omega arith, front-le-count k (history T n))) in
    omega (arith, safe run.0 run.1, run.2 l)

-- The last store to line l among the first n events, which has rank c.
pub record IsLastStore (T : Recording) (l n c : ℕ) : Type 0 where
  pub store : ℕ
  pub what : Written
  pub is_store : IsAct T store (Stores l what)
  pub by_now : store ≤ n
  pub rank : count_at T l store ≡ c

-- There are no stores to line l among the first n events, c being 0, or the last of them has rank c.
abbrev pub LastStore : Recording → ℕ → ℕ → ℕ → Type 0
LastStore T l n c = (c ≡ 0) ⊎ IsLastStore T l n c

-- a store to the line is counted
count-own : (l : ℕ) (w : Written) (h : List Act) → count l (Stores l w ∷ h) ≡ suc (count l h)
count-own l w h = let e : (l == l) ≡ true = eq-eqb l l refl in rw e

-- the rank of a store is one more than the number of stores before
store-rank : (T : Recording) (l n : ℕ) (w : Written) → IsAct T (suc n) (Stores l w) → count_at T l (suc n) ≡ suc (count_at T l n)
store-rank T l n w is = ap (count l) (history-act T n (Stores l w) is) ∙ count-own l w (history T n)

-- a store comes after what has a smaller count
rank-above : (T : Recording) (l j f : ℕ) (w : Written) → IsAct T j (Stores l w) → f < j → count_at T l f < count_at T l j
rank-above T l zero f w is before = absurd (omega arith)
rank-above T l (suc n) f w is before = omega (arith, store-rank T l n w is, count-mono T l f n (omega arith))

-- the rank of a store is positive
rank-some : (T : Recording) (l j : ℕ) (w : Written) → IsAct T j (Stores l w) → 1 ≤ count_at T l j
rank-some T l j w is = let within = act-within T j (Stores l w) is in omega (arith, rank-above T l j 0 w is within.0)

-- the last store stays the last one at an event that is no store to the line
later-store : (T : Recording) (l n c : ℕ) → LastStore T l n c → LastStore T l (suc n) c
later-store T l n c (inl e) = inl e
later-store T l n c (inr x) = inr (record { store = x.store; what = x.what; is_store = x.is_store; by_now = omega (arith, x.by_now); rank = x.rank })

-- a store to the line is the last one, and a store to another line changes nothing
here-store : (T : Recording) (l n k : ℕ) (w : Written) (v : Bool) → (k == l) ≡ v → IsAct T (suc n) (Stores k w) → LastStore T l n (count l (history T n)) → LastStore T l (suc n) (if v then suc (count l (history T n)) else count l (history T n))
here-store T l n k w true same is before =
    let e : k ≡ l = eqb-true k l same in
    let P : ℕ → Type 0 = λ m. IsAct T (suc n) (Stores m w) in
    let own : IsAct T (suc n) (Stores l w) = subst P e is in
    inr (record { store = suc n; what = w; is_store = own; by_now = omega arith; rank = store-rank T l n w own })
here-store T l n k w false other is before = later-store T l n (count l (history T n)) before

-- the last store after one more act
act-store : (T : Recording) (l n : ℕ) (a : Act) → IsAct T (suc n) a → LastStore T l n (count l (history T n)) → LastStore T l (suc n) (count l (a ∷ history T n))
act-store T l n (Stores k w) is before = here-store T l n k w (k == l) refl is before
act-store T l n a is before = later-store T l n (count l (history T n)) before

-- where there are stores to a line, one of them is the last
pub last-store : (T : Recording) (l n : ℕ) → LastStore T l n (count_at T l n)
last-store T l zero = inl refl
last-store T l (suc n) =
    let P : List Act → Type 0 = λ h. LastStore T l (suc n) (count l h) in
    elim (history-step T n) [
      | inl x ↦ subst P (sym (history-act T n x.0 x.1)) (act-store T l n x.0 x.1 (last-store T l n))
      | inr x ↦ subst P (sym x.1) (later-store T l n (count l (history T n)) (last-store T l n))
    ]

-- an act that is no store leaves the count
count-left : (T : Recording) (l i : ℕ) (a : Act) → IsAct T i a → ((h : List Act) → count l (a ∷ h) ≡ count l h) → count_at T l i ≡ count_at T l (i - 1)
count-left T l zero a is same = absurd (let within = act-within T zero a is in omega (arith, within.0))
count-left T l (suc n) a is same =
    let e : suc n - 1 ≡ n = omega arith in
    rw e (ap (count l) (history-act T n a is) ∙ same (history T n))

-- Since event i, thread t has not fenced by place n.
abbrev pub IsUnfenced : Recording → ℕ → ℕ → ℕ → Type 0
IsUnfenced T t i n = (k : ℕ) → i < k → k ≤ n → IsAct T k (Fences t) → ⊥

-- A flush of line l by thread t, which has not fenced since by place n, marked c stores, and no other such flush marked more.
pub record IsOpenFlush (T : Recording) (t l n c : ℕ) : Type 0 where
  pub flush : ℕ
  pub is_flush : IsAct T flush (Flushes t l)
  pub by_now : flush ≤ n
  pub unfenced : IsUnfenced T t flush n
  pub stores : count_at T l flush ≡ c
  pub greatest : (f : ℕ) → f ≤ n → IsAct T f (Flushes t l) → IsUnfenced T t f n → count_at T l f ≤ c

-- What the open mark of line l by thread t tells of the first n events.
abbrev pub OpenFlush : Recording → ℕ → ℕ → ℕ → Option ℕ → Type 0
OpenFlush T t l n None = (f : ℕ) → f ≤ n → IsAct T f (Flushes t l) → IsUnfenced T t f n → ⊥
OpenFlush T t l n (Some c) = IsOpenFlush T t l n c

-- what the next event is not happened by now
sooner : (T : Recording) (i n : ℕ) (a : Act) → (IsAct T (suc n) a → ⊥) → IsAct T i a → i ≤ suc n → i ≤ n
sooner T i n a not_here is by_now =
    elim (equal_or_before i n by_now) [
      | inl e ↦ let P : ℕ → Type 0 = λ k. IsAct T k a in absurd (not_here (subst P e is))
      | inr before ↦ before
    ]

-- an event that is no flush of the line by the thread, nor a fence of it, leaves what is open
later-mark : (T : Recording) (t l n : ℕ) (o : Option ℕ) → (IsAct T (suc n) (Flushes t l) → ⊥) → (IsAct T (suc n) (Fences t) → ⊥) → OpenFlush T t l n o → OpenFlush T t l (suc n) o
later-mark T t l n None no_flush no_fence before = λ f by_now is unfenced.
    before f (sooner T f n (Flushes t l) no_flush is by_now) is (λ k after k_by. unfenced k after (omega arith))
later-mark T t l n (Some c) no_flush no_fence before = record {
  flush = before.flush;
  is_flush = before.is_flush;
  by_now = omega (arith, before.by_now);
  unfenced = λ k after by_now fence. before.unfenced k after (sooner T k n (Fences t) no_fence fence by_now) fence;
  stores = before.stores;
  greatest = λ f by_now is unfenced. before.greatest f (sooner T f n (Flushes t l) no_flush is by_now) is (λ k after k_by. unfenced k after (omega arith));
}

-- an event is not this one, as its act is another
other-act : (T : Recording) (i : ℕ) (a b : Act) → IsAct T i a → a ≢ b → IsAct T i b → ⊥
other-act T i a b is other is_b = other (act-unique T i a b is is_b)

-- a flush of the line by the thread is open right after it
mark-here : (T : Recording) (t l n : ℕ) → IsAct T (suc n) (Flushes t l) → IsOpenFlush T t l (suc n) (count l (history T n))
mark-here T t l n is =
    let stays : count_at T l (suc n) ≡ count_at T l n = ap (count l) (history-act T n (Flushes t l) is) in
    record {
      flush = suc n;
      is_flush = is;
      by_now = omega arith;
      unfenced = λ k after by_now fence. absurd (omega arith);
      stores = stays;
      greatest = λ f by_now flush unfenced. omega (arith, stays, count-mono T l f (suc n) by_now);
    }

-- the open mark after a flush
flush-mark : (T : Recording) (t l n u k : ℕ) (v : Bool) → ((u == t) && (k == l)) ≡ v → IsAct T (suc n) (Flushes u k) → OpenFlush T t l n (open_mark t l (history T n)) → OpenFlush T t l (suc n) (if v then Some (count l (history T n)) else open_mark t l (history T n))
flush-mark T t l n u k true same is before =
    let parts = and_parts (u == t) (k == l) same in
    let same_thread : u ≡ t = eqb-true u t parts.0 in
    let same_line : k ≡ l = eqb-true k l parts.1 in
    let e : Flushes u k ≡ Flushes t l = cc in
    let P : Act → Type 0 = λ a. IsAct T (suc n) a in
    mark-here T t l n (subst P e is)
flush-mark T t l n u k false other is before = grind (arith, nat_tests, later-mark, other-act, true≢false, and_from)

-- the open mark after a fence
fence-mark : (T : Recording) (t l n u : ℕ) (v : Bool) → (u == t) ≡ v → IsAct T (suc n) (Fences u) → OpenFlush T t l n (open_mark t l (history T n)) → OpenFlush T t l (suc n) (if v then None else open_mark t l (history T n))
fence-mark T t l n u true same is before = λ f by_now flush unfenced.
    let e : u ≡ t = eqb-true u t same in
    let P : ℕ → Type 0 = λ m. IsAct T (suc n) (Fences m) in
    let no_flush = other-act T (suc n) (Fences u) (Flushes t l) is (λ e. cc) in
    let f_before = sooner T f n (Flushes t l) no_flush flush by_now in
    unfenced (suc n) (omega arith) (omega arith) (subst P e is)
fence-mark T t l n u false other is before =
    later-mark T t l n (open_mark t l (history T n))
    (other-act T (suc n) (Fences u) (Flushes t l) is (λ e. cc))
    (other-act T (suc n) (Fences u) (Fences t) is (λ e. let same : u ≡ t = cc in eqb-false u t other same))
    before

-- the open mark after one more act
act-mark : (T : Recording) (t l n : ℕ) (a : Act) → IsAct T (suc n) a → OpenFlush T t l n (open_mark t l (history T n)) → OpenFlush T t l (suc n) (open_mark t l (a ∷ history T n))
act-mark T t l n (Flushes u k) is before = flush-mark T t l n u k ((u == t) && (k == l)) refl is before
act-mark T t l n (Fences u) is before = fence-mark T t l n u (u == t) refl is before
act-mark T t l n a is before =
    later-mark T t l n (open_mark t l (history T n)) (other-act T (suc n) a (Flushes t l) is (λ e. cc)) (other-act T (suc n) a (Fences t) is (λ e. cc)) before

-- the open mark is that of the thread's last flush of the line, if it has not fenced since
pub open_mark-tells : (T : Recording) (t l n : ℕ) → OpenFlush T t l n (open_mark t l (history T n))
open_mark-tells T t l zero = λ f by_now is unfenced. let within = act-within T f (Flushes t l) is in absurd (omega (arith, within.0))
open_mark-tells T t l (suc n) =
    let P : List Act → Type 0 = λ h. OpenFlush T t l (suc n) (open_mark t l h) in
    let past = λ (a : Act) (x : length T.events ≤ n) (is : IsAct T (suc n) a). let within = act-within T (suc n) a is in absurd {A = ⊥} (omega (arith, within.1)) in
    elim (history-step T n) [
      | inl x ↦ subst P (sym (history-act T n x.0 x.1)) (act-mark T t l n x.0 x.1 (open_mark-tells T t l n))
      | inr x ↦ subst P (sym x.1) (later-mark T t l n (open_mark t l (history T n)) (past (Flushes t l) x.0) (past (Fences t) x.0) (open_mark-tells T t l n))
    ]

-- a store that the open mark counts is covered
covered-from_mark : (T : Recording) (t l j i : ℕ) (w : Written) (o : Option ℕ) → 1 ≤ i → IsAct T j (Stores l w) → OpenFlush T t l (i - 1) o → count_at T l j ≤ unwrap_or o 0 → IsCovered T t l j i
covered-from_mark T t l j i w None some is tells below = absurd (omega (arith, rank-some T l j w is))
covered-from_mark T t l j i w (Some c) some is tells below = record {
  flush = tells.flush;
  is_flush = tells.is_flush;
  after = elim (cases_order j tells.flush) [
    | inl e ↦ let P : ℕ → Type 0 = λ k. IsAct T k (Stores l w) in
        absurd (other-act T tells.flush (Flushes t l) (Stores l w) tells.is_flush (λ d. cc) (subst P e is))
    | inr x ↦ elim x [
      | inl before ↦ before
      | inr after ↦ absurd (omega (arith, rank-above T l j tells.flush w is after, tells.stores))
    ]
  ];
  before = before-one tells.flush i some tells.by_now;
  unfenced = λ k after before. tells.unfenced k after (omega arith);
}

-- the open mark counts each covered store
mark-from_covered : (T : Recording) (t l j i : ℕ) (o : Option ℕ) → OpenFlush T t l (i - 1) o → IsCovered T t l j i → count_at T l j ≤ unwrap_or o 0
mark-from_covered T t l j i None tells it =
    absurd (tells it.flush (omega (arith, it.before)) it.is_flush (λ k after by_now. it.unfenced k after (before-one k i (omega (arith, it.before)) by_now)))
mark-from_covered T t l j i (Some c) tells it =
    let marked = tells.greatest it.flush (omega (arith, it.before)) it.is_flush (λ k after by_now. it.unfenced k after (before-one k i (omega (arith, it.before)) by_now)) in
    omega (arith, marked, count-mono T l j it.flush (omega (arith, it.after)))

-- where all stores before are safe or covered, the front or the open mark counts all
all-counted : (T : Recording) (t l i c : ℕ) → 1 ≤ i → IsRedundantFlush T t l i → LastStore T l (i - 1) c → c ≤ max (front_at T l (i - 1)) (unwrap_or (open_mark t l (history T (i - 1))) 0)
all-counted T t l i c some it (inl e) = omega arith
all-counted T t l i c some it (inr x) =
    elim (it.nothing_new x.store x.what (before-one x.store i some x.by_now) x.is_store) [
      | inl safe ↦ omega (arith, x.rank, front-from_safe T l (i - 1) x.store safe)
      | inr covered ↦ omega (arith, x.rank, mark-from_covered T t l x.store i (open_mark t l (history T (i - 1))) (open_mark-tells T t l (i - 1)) covered)
    ]

-- a number that is at most the greater of two is at most one of them
at_most_one : (a b c : ℕ) → a ≤ max b c → (a ≤ b) ⊎ (a ≤ c)
at_most_one a b c h = elim (cases_lt b a) [ inl more ↦ inr (omega arith) | inr less ↦ inl less ]

-- where the front or the open mark counts all, all stores before are safe or covered
nothing-new : (T : Recording) (t l i : ℕ) → IsAct T i (Flushes t l) → count_at T l (i - 1) ≤ max (front_at T l (i - 1)) (unwrap_or (open_mark t l (history T (i - 1))) 0) → IsRedundantFlush T t l i
nothing-new T t l i is below = record {
  is_flush = is;
  nothing_new = λ j w before store.
      let within = act-within T i (Flushes t l) is in
      let rank : count_at T l j ≤ count_at T l (i - 1) = count-mono T l j (i - 1) (omega arith) in
      elim (at_most_one (count_at T l j) (front_at T l (i - 1)) (unwrap_or (open_mark t l (history T (i - 1))) 0) (omega arith)) [
        | inl in_front ↦ inl (safe-from_front T l (i - 1) j in_front)
        | inr in_mark ↦ inr (covered-from_mark T t l j i w (open_mark t l (history T (i - 1))) within.0 store (open_mark-tells T t l (i - 1)) in_mark)
      ];
}

-- a flush is redundant exactly where the front or the open mark of its thread counts all stores to the line already
pub redundant_flush_by_fronts : RedundantFlushByFronts
redundant_flush_by_fronts T t l i is =
    let within = act-within T i (Flushes t l) is in
    let same : count_at T l i ≡ count_at T l (i - 1) = count-left T l i (Flushes t l) is (λ h. refl) in (
      λ it. omega (arith, same, all-counted T t l i (count_at T l (i - 1)) within.0 it (last-store T l (i - 1))),
      λ below. nothing-new T t l i is (omega (arith, same, below)),
    )

-- where all stores before are safe, the front counts all
all-safe : (T : Recording) (l i c : ℕ) → 1 ≤ i → IsRedundantClflush T l i → LastStore T l (i - 1) c → c ≤ front_at T l (i - 1)
all-safe T l i c some it (inl e) = omega arith
all-safe T l i c some it (inr x) =
    omega (arith, x.rank, front-from_safe T l (i - 1) x.store (it.nothing_new x.store x.what (before-one x.store i some x.by_now) x.is_store))

-- a clflush is redundant exactly where the front counts all stores to the line already
pub redundant_clflush_by_fronts : RedundantClflushByFronts
redundant_clflush_by_fronts T l i is =
    let within = act-within T i (Clflushes l) is in
    let same : count_at T l i ≡ count_at T l (i - 1) = count-left T l i (Clflushes l) is (λ h. refl) in (
      λ it. omega (arith, same, all-safe T l i (count_at T l (i - 1)) within.0 it (last-store T l (i - 1))),
      λ below. record {
        is_clflush = is;
        nothing_new = λ j w before store. safe-from_front T l (i - 1) j (omega (arith, same, below, count-mono T l j (i - 1) (omega arith)));
      },
    )
