-- The open flushes of a thread, and what its fence makes of them.
use Rattle.std.proofs.Common.{◌≡◌, ◌≢◌, ℕ, zero, suc, ◌-◌, ◌<◌, ◌≤◌, ◌⊎◌, inl, inr, Bool, true, false, List, [], ◌∷◌, ◌++◌, length, map, refl, sym, ap, subst, ◌∙◌, true≢false, arith}
use Rattle.std.specs.Prelude.{◌==◌, if◌then◌else◌, max}
use Rattle.std.proofs.lemmas.Bool.{cases_lt, eqb-true, eq-eqb}
use Rattle.std.proofs.lemmas.List.{map-append}
use Rattle.std.proofs.lemmas.Bool.Decides.{nat_tests}
use Rattle.pmt_laws.specs.Prelude.{Act, Flushes, Clflushes, Fences, count, Recording, IsAct, history, count_at, front, front_at, always_stays, IsRising, Has, AllByRecursion}
use Rattle.pmt_model.specs.Keeping.{IsKept, Stays, ByFence, ByFlush, ByClflush}
use Rattle.pmt_laws.proofs.Histories.{act-within, act-unique, history-act, history-step, length-history, mark-le-count, front-grows, count-mono}
use Rattle.pmt_laws.proofs.KeepLemmas.{raising-is-kept}
use Rattle.pmt_laws.proofs.NeededFlushes.{kept-needed}
use Rattle.pmt_laws.specs.Passing.{Flushed, open_flushes, most, FenceRaises, FenceDecides, FenceIsKept, ClflushIsKept}

-- ---- The most that flushes cover

-- one flush more
most-push : (l : ℕ) (flushes : List Flushed) (f : Flushed) → most l (flushes ++ f ∷ []) ≡ (if f.line == l then max (most l flushes) f.stores else most l flushes)
most-push l [] f = grind (arith, nat_tests)
most-push l (hd ∷ tl) f = grind (arith, nat_tests, most-push l tl f)

-- open flushes cover no more than there is
most-le-count : (t l : ℕ) (h : List Act) → most l (open_flushes t h) ≤ count l h
most-le-count t l [] = omega arith
most-le-count t l (hd ∷ tl) = grind (arith, nat_tests, eqb-true, most-push, most-le-count t l tl)

-- what the thread's last flush covers is open, or in the front
pub fence_raises : FenceRaises
fence_raises t l [] = refl
fence_raises t l (hd ∷ tl) = grind (arith, nat_tests, eqb-true, most-le-count, most-push, mark-le-count, fence_raises t l tl)

-- ---- Which events the open flushes are

-- The flush is event number f.number, by thread t, which has not fenced since.
pub record IsOpenOf (T : Recording) (t n : ℕ) (f : Flushed) : Type 0 where
  pub is_flush : IsAct T f.number (Flushes t f.line)
  pub by_now : f.number ≤ n
  pub stores : f.stores ≡ count_at T f.line f.number
  pub unfenced : (j : ℕ) → f.number < j → j ≤ n → ¬ IsAct T j (Fences t)

abbrev pub number_of : Flushed → ℕ
number_of f = f.number

-- These are the flushes by thread t that are open at place n, the oldest first.
pub record AreOpen (T : Recording) (t n : ℕ) (flushes : List Flushed) : Type 0 where
  pub each : AllByRecursion (IsOpenOf T t n) flushes
  pub all : (k l : ℕ) → IsAct T k (Flushes t l) → k ≤ n → ((j : ℕ) → k < j → j ≤ n → ¬ IsAct T j (Fences t)) → Has (map number_of flushes) k
  pub rising : IsRising 0 (map number_of flushes)

-- the open flushes stay open where the thread doesn't fence
each-later : (T : Recording) (t n : ℕ) (flushes : List Flushed) → ¬ IsAct T (suc n) (Fences t) → AllByRecursion (IsOpenOf T t n) flushes → AllByRecursion (IsOpenOf T t (suc n)) flushes
each-later T t n [] none each = tt
each-later T t n (f ∷ flushes) none each = (
  record {
    is_flush = each.0.is_flush;
    by_now = omega (arith, each.0.by_now);
    stores = each.0.stores;
    unfenced = λ j after by_now is. go j after by_now is (cases_lt j (suc n));
  },
  each-later T t n flushes none each.1,
)
  where
    go : (j : ℕ) → f.number < j → j ≤ suc n → IsAct T j (Fences t) → (j < suc n) ⊎ (suc n ≤ j) → ⊥
    go j after by_now is (inl early) = each.0.unfenced j after (omega arith) is
    go j after by_now is (inr late) = let e : j ≡ suc n = omega arith in none (subst (λ i. IsAct T i (Fences t)) e is)

-- no flush and no fence of the thread
open-same : (T : Recording) (t n : ℕ) (flushes : List Flushed) → ((l : ℕ) → ¬ IsAct T (suc n) (Flushes t l)) → ¬ IsAct T (suc n) (Fences t) → AreOpen T t n flushes → AreOpen T t (suc n) flushes
open-same T t n flushes no_flush no_fence open_ = record {
  each = each-later T t n flushes no_fence open_.each;
  all = λ k l is by_now unfenced. go k l is by_now unfenced (cases_lt k (suc n));
  rising = open_.rising;
}
  where
    go : (k l : ℕ) → IsAct T k (Flushes t l) → k ≤ suc n → ((j : ℕ) → k < j → j ≤ suc n → ¬ IsAct T j (Fences t)) → (k < suc n) ⊎ (suc n ≤ k) → Has (map number_of flushes) k
    go k l is by_now unfenced (inl early) = open_.all k l is (omega arith) (λ j after before. unfenced j after (omega arith))
    go k l is by_now unfenced (inr late) = let e : k ≡ suc n = omega arith in absurd (no_flush l (subst (λ i. IsAct T i (Flushes t l)) e is))

-- the numbers with one more at the end
has-left : (ks : List ℕ) (js : List ℕ) (n : ℕ) → Has ks n → Has (ks ++ js) n
has-left [] js n h = absurd h
has-left (k ∷ ks) js n (inl e) = inl e
has-left (k ∷ ks) js n (inr h) = inr (has-left ks js n h)

has-right : (ks : List ℕ) (js : List ℕ) (n : ℕ) → Has js n → Has (ks ++ js) n
has-right [] js n h = h
has-right (k ∷ ks) js n h = inr (has-right ks js n h)

rising-push : (low : ℕ) (ks : List ℕ) (n : ℕ) → low < n → ((k : ℕ) → Has ks k → k < n) → IsRising low ks → IsRising low (ks ++ n ∷ [])
rising-push low [] n less below rises = (less, tt)
rising-push low (k ∷ ks) n less below rises = (rises.0, rising-push k ks n (below k (inl refl)) (λ j h. below j (inr h)) rises.1)

-- the numbers of open flushes have come
number-by_now : (T : Recording) (t n : ℕ) (flushes : List Flushed) (k : ℕ) → AllByRecursion (IsOpenOf T t n) flushes → Has (map number_of flushes) k → k ≤ n
number-by_now T t n [] k each h = absurd h
number-by_now T t n (f ∷ flushes) k each (inl e) = omega (arith, each.0.by_now)
number-by_now T t n (f ∷ flushes) k each (inr h) = number-by_now T t n flushes k each.1 h

all-push : (T : Recording) (t n : ℕ) (flushes : List Flushed) (f : Flushed) → AllByRecursion (IsOpenOf T t n) flushes → IsOpenOf T t n f → AllByRecursion (IsOpenOf T t n) (flushes ++ f ∷ [])
all-push T t n [] f each one = (one, tt)
all-push T t n (x ∷ flushes) f each one = (each.0, all-push T t n flushes f each.1 one)

-- one flush more by the thread
open-more : (T : Recording) (t l n : ℕ) (flushes : List Flushed) → IsAct T (suc n) (Flushes t l) → AreOpen T t n flushes →
    AreOpen T t (suc n) (flushes ++ record { number = suc n; line = l; stores = count_at T l n } ∷ [])
open-more T t l n flushes is open_ = record {
  each = all-push T t (suc n) flushes flush (each-later T t n flushes no_fence open_.each)
      (record { is_flush = is; by_now = omega arith; stores = sym (ap (count l) (history-act T n (Flushes t l) is)); unfenced = λ j after by_now fence. absurd (omega arith) });
  all = λ k m other by_now unfenced. rw (map-append number_of flushes (flush ∷ [])) (go k m other by_now unfenced (cases_lt k (suc n)));
  rising = rw (map-append number_of flushes (flush ∷ []))
      (rising-push 0 (map number_of flushes) (suc n) (omega arith) (λ k h. omega (arith, number-by_now T t n flushes k open_.each h)) open_.rising);
}
  where
    flush : Flushed
    flush = record { number = suc n; line = l; stores = count_at T l n }

    no_fence : ¬ IsAct T (suc n) (Fences t)
    no_fence fence = let same = act-unique T (suc n) (Flushes t l) (Fences t) is fence in cc

    go : (k m : ℕ) → IsAct T k (Flushes t m) → k ≤ suc n → ((j : ℕ) → k < j → j ≤ suc n → ¬ IsAct T j (Fences t)) → (k < suc n) ⊎ (suc n ≤ k) → Has (map number_of flushes ++ suc n ∷ []) k
    go k m other by_now unfenced (inl early) = has-left (map number_of flushes) (suc n ∷ []) k (open_.all k m other (omega arith) (λ j after before. unfenced j after (omega arith)))
    go k m other by_now unfenced (inr late) = has-right (map number_of flushes) (suc n ∷ []) k (inl (omega arith))

-- a fence by the thread
open-none : (T : Recording) (t n : ℕ) → IsAct T (suc n) (Fences t) → AreOpen T t (suc n) []
open-none T t n fence = grind (arith, nat_tests, cases_lt, act-unique)

-- the recursion gives the open flushes
pub are_open : (T : Recording) (t n : ℕ) → AreOpen T t n (open_flushes t (history T n))
are_open T t zero = record { each = tt; all = λ k l is by_now unfenced. absurd (omega (arith, (act-within T k (Flushes t l) is).0)); rising = tt }
are_open T t (suc n) = elim (history-step T n) [
  | inl x ↦ subst (λ h. AreOpen T t (suc n) (open_flushes t h)) (sym (history-act T n x.0 x.1)) (go x.0 x.1 (are_open T t n))
  | inr x ↦ subst (λ h. AreOpen T t (suc n) (open_flushes t h)) (sym x.1)
      (open-same T t n (open_flushes t (history T n)) (λ l is. omega (arith, (act-within T (suc n) (Flushes t l) is).1, x.0)) (λ is. omega (arith, (act-within T (suc n) (Fences t) is).1, x.0)) (are_open T t n))
]
  where
    other : (a : Act) → IsAct T (suc n) a → ((l : ℕ) → a ≡ Flushes t l → ⊥) → (a ≡ Fences t → ⊥) → AreOpen T t n (open_flushes t (history T n)) → AreOpen T t (suc n) (open_flushes t (history T n))
    other a is no_flush no_fence open_ =
        open-same T t n (open_flushes t (history T n)) (λ l flush. no_flush l (act-unique T (suc n) a (Flushes t l) is flush)) (λ fence. no_fence (act-unique T (suc n) a (Fences t) is fence)) open_

    go : (a : Act) → IsAct T (suc n) a → AreOpen T t n (open_flushes t (history T n)) → AreOpen T t (suc n) (open_flushes t (a ∷ history T n))
    go (Flushes u l) is open_ = at (u == t) refl
      where
        within : n ≤ length T.events
        within = let h = (act-within T (suc n) (Flushes u l) is).1 in omega arith

        at : (b : Bool) → (u == t) ≡ b →
            AreOpen T t (suc n) (if b then open_flushes t (history T n) ++ record { number = suc (length (history T n)); line = l; stores = count_at T l n } ∷ [] else open_flushes t (history T n))
        at true e = rw (length-history T n within) (open-more T t l n (open_flushes t (history T n)) (subst (λ v. IsAct T (suc n) (Flushes v l)) (eqb-true u t e) is) open_)
        at false e = other (Flushes u l) is (λ k same. let thread : u ≡ t = cc in true≢false (sym (eq-eqb u t thread) ∙ e)) (λ same. cc) open_
    go (Fences u) is open_ = at (u == t) refl
      where
        at : (b : Bool) → (u == t) ≡ b → AreOpen T t (suc n) (if b then [] else open_flushes t (history T n))
        at true e = open-none T t n (subst (λ v. IsAct T (suc n) (Fences v)) (eqb-true u t e) is)
        at false e = other (Fences u) is (λ k same. cc) (λ same. let thread : u ≡ t = cc in true≢false (sym (eq-eqb u t thread) ∙ e)) open_
    go a is open_ = other a is (λ l e. cc) (λ e. cc) open_

-- ---- What a fence decides

-- a split of rising flushes
split-rising : (low : ℕ) (older : List Flushed) (f : Flushed) (newer : List Flushed) → IsRising low (map number_of (older ++ f ∷ newer)) → IsRising f.number (map number_of newer)
split-rising low [] f newer rises = rises.1
split-rising low (x ∷ older) f newer rises = split-rising x.number older f newer rises.1

split-has : (low : ℕ) (older : List Flushed) (f : Flushed) (newer : List Flushed) (k : ℕ) → IsRising low (map number_of (older ++ f ∷ newer)) → Has (map number_of (older ++ f ∷ newer)) k → f.number < k → Has (map number_of newer) k
split-has low [] f newer k rises (inl e) after = absurd (omega arith)
split-has low [] f newer k rises (inr h) after = h
split-has low (x ∷ older) f newer k rises (inl e) after = absurd (omega (arith, first-below x.number older f newer rises.1))
  where
    first-below : (low : ℕ) (older : List Flushed) (f : Flushed) (newer : List Flushed) → IsRising low (map number_of (older ++ f ∷ newer)) → low < f.number
    first-below low [] f newer rises = rises.0
    first-below low (x ∷ older) f newer rises = omega (arith, rises.0, first-below x.number older f newer rises.1)
split-has low (x ∷ older) f newer k rises (inr h) after = split-has x.number older f newer k rises.1 h after

split-each : (P : Flushed → Type 0) (older : List Flushed) (f : Flushed) (newer : List Flushed) → AllByRecursion P (older ++ f ∷ newer) → P f × AllByRecursion P newer
split-each P [] f newer each = each
split-each P (x ∷ older) f newer each = split-each P older f newer each.1

-- flushes of other lines cover nothing
most-none : (T : Recording) (t l n low : ℕ) (flushes : List Flushed) → AllByRecursion (IsOpenOf T t n) flushes → IsRising low (map number_of flushes) →
    ((k : ℕ) → low < k → k < suc n → ¬ IsAct T k (Flushes t l)) → most l flushes ≡ 0
most-none T t l n low [] each rises none = refl
most-none T t l n low (f ∷ flushes) each rises none = at (f.line == l) refl (most-none T t l n f.number flushes each.1 rises.1 (λ k after before. none k (omega (arith, rises.0, after)) before))
  where
    at : (b : Bool) → (f.line == l) ≡ b → most l flushes ≡ 0 → (if b then max f.stores (most l flushes) else most l flushes) ≡ 0
    at true e rest = absurd (none f.number rises.0 (omega (arith, each.0.by_now)) (subst (λ j. IsAct T f.number (Flushes t j)) (eqb-true f.line l e) each.0.is_flush))
    at false e rest = rest

-- a flush of the line covers no more than the most
most-has : (T : Recording) (t l n k : ℕ) (flushes : List Flushed) → AllByRecursion (IsOpenOf T t n) flushes → Has (map number_of flushes) k → IsAct T k (Flushes t l) → count_at T l k ≤ most l flushes
most-has T t l n k [] each h is = absurd h
most-has T t l n k (f ∷ flushes) each (inl e) is =
    let same = act-unique T k (Flushes t f.line) (Flushes t l) (subst (λ i. IsAct T i (Flushes t f.line)) e each.0.is_flush) is in
    let line : f.line ≡ l = cc in
    let stores : f.stores ≡ count_at T l k = each.0.stores ∙ ap (λ j. count_at T j f.number) line ∙ ap (count_at T l) e in
    rw (eq-eqb f.line l line) (omega arith)
most-has T t l n k (f ∷ flushes) each (inr h) is = at (f.line == l) (most-has T t l n k flushes each.1 h is)
  where
    at : (b : Bool) → count_at T l k ≤ most l flushes → count_at T l k ≤ (if b then max f.stores (most l flushes) else most l flushes)
    at true le = omega arith
    at false le = le

pub fence_decides : FenceDecides
fence_decides T t n older newer f fence split = (there, back)
  where
    open_ : AreOpen T t n (older ++ f ∷ newer)
    open_ = subst (AreOpen T t n) split (are_open T t n)

    parts : IsOpenOf T t n f × AllByRecursion (IsOpenOf T t n) newer
    parts = split-each (IsOpenOf T t n) older f newer open_.each

    there : IsKept T f.number → max (front_at T f.line n) (most f.line newer) < f.stores
    there kept =
        let needed = kept-needed T t f.line f.number kept parts.0.is_flush in
        let at : needed.before ≡ n = same_place needed.before (λ before. parts.0.unfenced (suc needed.before) needed.later (omega arith) needed.is_fence) (λ after. needed.next_fence (suc n) (omega (arith, parts.0.by_now)) (omega arith) fence) in
        let none : most f.line newer ≡ 0 =
        most-none T t f.line n f.number newer parts.1 (split-rising 0 older f newer open_.rising) (λ k after before is. needed.last_flush k after (omega arith) is) in
        let above : front_at T f.line n < count_at T f.line f.number = subst (λ m. front_at T f.line m < count_at T f.line f.number) at needed.needed in
        omega (arith, parts.0.stores)
      where
        same_place : (m : ℕ) → (m < n → ⊥) → (n < m → ⊥) → m ≡ n
        same_place m early late = omega (arith, early, late)

    back : max (front_at T f.line n) (most f.line newer) < f.stores → IsKept T f.number
    back above = ByFlush (record {
      thread = t;
      line = f.line;
      fence = suc n;
      is_flush = parts.0.is_flush;
      is_fence = fence;
      later = omega (arith, parts.0.by_now);
      next_fence = λ j after before is. parts.0.unfenced j after (omega arith) is;
      last_flush = λ k after before is.
          let has = split-has 0 older f newer k open_.rising (open_.all k f.line is (omega arith) (λ j later by_now. parts.0.unfenced j (omega arith) by_now)) after in
          let le : count_at T f.line k ≤ most f.line newer = most-has T t f.line n k newer parts.1 has is in
          omega (arith, parts.0.stores, count-mono T f.line f.number k (omega arith));
      needed = let e : suc n - 1 ≡ n = omega arith in rw e (omega (arith, parts.0.stores));
    })

pub fence_is_kept : FenceIsKept
fence_is_kept T t n fence = (there, back)
  where
    other : (a : Act) → IsAct T (suc n) a → a ≡ Fences t
    other a is = act-unique T (suc n) a (Fences t) is fence

    there : IsKept T (suc n) → (l : ℕ) × (front_at T l n < front_at T l (suc n))
    there (Stays a is stays) = absurd (true≢false (sym stays ∙ ap always_stays (other a is)))
    there (ByFence u) =
        let e : suc n - 1 ≡ n = omega arith in
        let differs : front_at T u.line (suc n) ≢ front_at T u.line n = rw e at u.raises in
        let grown : front_at T u.line n ≤ front_at T u.line (suc n) = rw (history-act T n (Fences t) fence) (front-grows u.line (Fences t) (history T n)) in
        (u.line, omega (arith, λ (same : front_at T u.line (suc n) ≡ front_at T u.line n). differs same))
    there (ByFlush u) = let same = other (Flushes u.thread u.line) u.is_flush in cc
    there (ByClflush u) = let same = other (Clflushes u.line) u.is_clflush in cc

    back : (l : ℕ) × (front_at T l n < front_at T l (suc n)) → IsKept T (suc n)
    back (l, rises) = raising-is-kept T l n (Fences t) fence (λ same. omega arith)

pub clflush_is_kept : ClflushIsKept
clflush_is_kept T l n is = (there, back)
  where
    raised : front_at T l (suc n) ≡ count_at T l n
    raised = let e = eq-eqb l l refl in ap (front l) (history-act T n (Clflushes l) is) ∙ rw e refl

    there : IsKept T (suc n) → front_at T l n < count_at T l n
    there (Stays a is2 stays) = absurd (true≢false (sym stays ∙ ap always_stays (act-unique T (suc n) a (Clflushes l) is2 is)))
    there (ByFence u) = let same = act-unique T (suc n) (Fences u.thread) (Clflushes l) u.is_fence is in cc
    there (ByFlush u) = let same = act-unique T (suc n) (Flushes u.thread u.line) (Clflushes l) u.is_flush is in cc
    there (ByClflush u) =
        let same = act-unique T (suc n) (Clflushes u.line) (Clflushes l) u.is_clflush is in
        let line : u.line ≡ l = cc in
        let e : suc n - 1 ≡ n = omega arith in
        let differs : front_at T u.line (suc n) ≢ front_at T u.line n = rw e at u.raises in
        let here : front_at T l (suc n) ≢ front_at T l n = subst (λ k. front_at T k (suc n) ≢ front_at T k n) line differs in
        let grown : front_at T l n ≤ front_at T l (suc n) = rw (history-act T n (Clflushes l) is) (front-grows l (Clflushes l) (history T n)) in
        omega (arith, raised, λ (equal : front_at T l (suc n) ≡ front_at T l n). here equal)

    back : front_at T l n < count_at T l n → IsKept T (suc n)
    back below = raising-is-kept T l n (Clflushes l) is (λ same. omega (arith, raised))
