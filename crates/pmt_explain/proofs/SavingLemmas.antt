-- From which place on stores are safe, and which of them a crash loses.
use Rattle.std.proofs.Common.{◌≡◌, ◌↔◌, ℕ, zero, suc, ◌-◌, ◌<◌, ◌≤◌, ◌==◌, inl, inr, Bool, true, false, List, length, Option, None, Some, refl, sym, subst, arith, get_or}
use Rattle.std.specs.Prelude.{IsTrue, nat_lt, if◌then◌else◌}
use Rattle.std.proofs.lemmas.Bool.{cases_lt, ltb-true, lt-ltb}
use Rattle.std.proofs.lemmas.Option.{slice_get-get_or}
use Rattle.pmt_explain.specs.Prelude.{Written, Stores, Flushes, Clflushes, Recording, IsAct, count_at, front_at, IsPending, IsLost}
use Rattle.pmt_laws.proofs.Histories.{act-unique, act-within, count-mono, front-mono}
use Rattle.pmt_reasons.proofs.CauseLemmas.{pending_by_fronts, rank-store, rank-above, marks-later}
use Rattle.pmt_explain.specs.declared.ahead.Ahead.{Ahead}
use Rattle.pmt_explain.specs.Numbers.{number_at}
use Rattle.pmt_explain.specs.Following.{past_of, IsCompleteBy, ByFence, ByItself, IsCompletedAfter, IsAhead, IsSafePlace, TellsSafe, AreSafePlaces, loses}
use Rattle.pmt_explain.proofs.FirstLemmas.{first-same}
use Rattle.pmt_explain.proofs.ReachLemmas.{complete-front, front-complete}

-- a store has a rank
rank-some : (T : Recording) (l i : ℕ) (w : Written) → IsAct T i (Stores l w) → 0 < count_at T l i
rank-some T l i w is = go i is (act-within T i (Stores l w) is)
  where
    go : (j : ℕ) → IsAct T j (Stores l w) → (1 ≤ j) × (j ≤ length T.events) → 0 < count_at T l j
    go zero at within = absurd (omega (arith, within.0))
    go (suc m) at within = omega (arith, rank-store T l m w at)

-- a flush that is complete makes the stores before it safe
later-safe : (T : Recording) (l i p : ℕ) → IsCompletedAfter T l i p → ¬ IsPending T l p i
later-safe T l i p (j, later, complete) pending =
    omega (arith, (pending_by_fronts T l p i).0 pending, complete-front T l j p complete, count-mono T l i j (omega arith))

-- and only such a flush does
safe-later : (T : Recording) (l i p : ℕ) (w : Written) → IsAct T i (Stores l w) → ¬ IsPending T l p i → IsCompletedAfter T l i p
safe-later T l i p w is safe = elim (cases_lt (front_at T l p) (count_at T l i)) [
  | inl below ↦ absurd (safe ((pending_by_fronts T l p i).1 below))
  | inr above ↦ elim (front-complete T l (count_at T l i) p above) [
    | inl none ↦ absurd (omega (arith, none, rank-some T l i w is))
    | inr x ↦ (x.0, after x.0 x.1 x.2, x.2)
  ]
]
  where
    after : (j : ℕ) → count_at T l i ≤ count_at T l j → IsCompleteBy T l j p → i < j
    after j marks (ByFence t fence flush f later by_now) = marks-later T l i j w (Flushes t l) is flush (λ e. cc) marks
    after j marks (ByItself flush by_now) = marks-later T l i j w (Clflushes l) is flush (λ e. cc) marks

-- what comes after a store tells its safe place
pub safe-told : (T : Recording) (n l p : ℕ) (w : Written) (ahead : Ahead) → IsAct T (suc n) (Stores l w) → IsAhead T (suc n) ahead → p ≡ number_at (past_of T) ahead.completed l →
    IsSafePlace T l (suc n) p
safe-told T n l p w ahead at x is =
    subst (IsSafePlace T l (suc n)) (sym is)
    (first-same (IsCompletedAfter T l (suc n)) (λ q. ¬ IsPending T l q (suc n)) (past_of T) _ (λ q c. later-safe T l (suc n) q c) (λ q s. safe-later T l (suc n) q w at s) (x.completed l))

-- a store is missing exactly before its safe place
pub pending-before : (T : Recording) (l n i s : ℕ) → n ≤ length T.events → IsSafePlace T l i s → (n < s) ↔ (front_at T l n < count_at T l i)
pending-before T l n i s within x = (
  λ before. elim (cases_lt (front_at T l n) (count_at T l i)) [
    | inl below ↦ below
    | inr above ↦ absurd (x.none_before n before (λ pending. omega (arith, (pending_by_fronts T l n i).0 pending)))
  ],
  λ below. elim (cases_lt n s) [
    | inl before ↦ before
    | inr upto ↦
        let safe = x.has (omega arith) in
        absurd (safe ((pending_by_fronts T l s i).1 (omega (arith, front-mono T l s n upto))))
  ],
)

-- the safe place of a store
pub place-at : (T : Recording) (places : List ℕ) (i l : ℕ) (w : Written) (d : ℕ) → AreSafePlaces T places → IsAct T i (Stores l w) → IsSafePlace T l i (get_or places (i - 1) d)
place-at T places i l w d are is =
    let within = act-within T i (Stores l w) is in
    let k = i - 1 in
    let inside : k < length places = omega (arith, are.size) in
    let number : suc k ≡ i = omega arith in
    subst (λ j. TellsSafe T j (get_or places k d)) number (are.each k (get_or places k d) (slice_get-get_or places k d inside)) l w is

-- what a crash loses, by safe places
pub lost-by-place : (T : Recording) (n : ℕ) (full : Option ℕ) (l x s : ℕ) (w : Written) → n ≤ length T.events → IsAct T x (Stores l w) → IsSafePlace T l x s → IsTrue (loses n full l x s) ↔ IsLost T n full x
lost-by-place T n None l x s w within is safe = (
  λ e. record { line = l; what = w; is_store = is; missing = (pending-before T l n x s within safe).0 (ltb-true n s e) },
  λ lost.
      let same = act-unique T x (Stores lost.line lost.what) (Stores l w) lost.is_store is in
      let line : lost.line ≡ l = cc in
      lt-ltb n s ((pending-before T l n x s within safe).1 (subst (λ k. front_at T k n < count_at T k x) line lost.missing)),
)
lost-by-place T n (Some full) l x s w within is safe = (λ e. there (l == full) refl e, λ lost. back (l == full) refl lost)
  where
    there : (b : Bool) → (l == full) ≡ b → IsTrue ((if b then nat_lt n x else nat_lt n s)) → IsLost T n (Some full) x
    there true own e = record {
      line = l;
      what = w;
      is_store = is;
      missing = subst (λ b. (if b then count_at T l n else front_at T l n) < count_at T l x) (sym own) (rank-above T l n x w is (ltb-true n x e));
    }
    there false other e = record {
      line = l;
      what = w;
      is_store = is;
      missing = subst (λ b. (if b then count_at T l n else front_at T l n) < count_at T l x) (sym other) ((pending-before T l n x s within safe).0 (ltb-true n s e));
    }

    missing : IsLost T n (Some full) x → (if (l == full) then count_at T l n else front_at T l n) < count_at T l x
    missing lost =
        let same = act-unique T x (Stores lost.line lost.what) (Stores l w) lost.is_store is in
        let line : lost.line ≡ l = cc in
        subst (λ k. (if (k == full) then count_at T k n else front_at T k n) < count_at T k x) line lost.missing

    back : (b : Bool) → (l == full) ≡ b → IsLost T n (Some full) x → IsTrue ((if b then nat_lt n x else nat_lt n s))
    back true own lost =
        let below : count_at T l n < count_at T l x = subst (λ b. (if b then count_at T l n else front_at T l n) < count_at T l x) own (missing lost) in
        elim (cases_lt n x) [ inl before ↦ lt-ltb n x before | inr upto ↦ absurd (omega (arith, count-mono T l x n upto)) ]
    back false other lost =
        lt-ltb n s ((pending-before T l n x s within safe).1 (subst (λ b. (if b then count_at T l n else front_at T l n) < count_at T l x) other (missing lost)))

-- the safe place of a store, told of its event
pub safe-at : (T : Recording) (i k p : ℕ) (v : Written) → IsAct T i (Stores k v) → IsSafePlace T k i p → TellsSafe T i p
safe-at T i k p v own safe l w at =
    let both : Stores k v ≡ Stores l w = act-unique T i (Stores k v) (Stores l w) own at in
    let same : k ≡ l = cc in
    subst (λ j. IsSafePlace T j i p) same safe
