-- Each event of a trimmed trace would be kept again.
use Rattle.std.proofs.Common.{◌≡◌, ◌≢◌, ℕ, zero, suc, ◌-◌, ◌<◌, List, refl, sym, ap, subst, ◌∙◌, arith}
use Rattle.pmt_laws.specs.Prelude.{Act, Flushes, Clflushes, Fences, Recording, act, IsAct, count_at, front_at, Has, IsSelection, cut, matching_place}
use Rattle.pmt_model.specs.Keeping.{IsKept, Stays, ByFence, ByFlush, ByClflush, IsKeep}
use Rattle.pmt_laws.specs.ModelLaws.{TrimmedAgain}
use Rattle.pmt_laws.proofs.Histories.{event-some}
use Rattle.pmt_laws.proofs.CutLemmas.{place-kept, cut-act}
use Rattle.pmt_laws.proofs.CutActs.{act-origin, count-selected, earlier-origin, earlier-selected}
use Rattle.pmt_laws.proofs.KeepLemmas.{keep_is_selection, keep_fronts}
use Rattle.pmt_laws.proofs.NeededFlushes.{IsNeededFlush, useful-needed, needing-kept}

-- a kept event that raises a front raises it in the trimmed trace
raises-again : (T : Recording) (K : List ℕ) (l n : ℕ) → IsKeep T K → Has K (suc n) → front_at T l (suc n) ≢ front_at T l (suc n - 1) →
    front_at (cut T K) l (suc (matching_place K n)) ≢ front_at (cut T K) l (suc (matching_place K n) - 1)
raises-again T K l n keep has raises same =
    let before : suc n - 1 ≡ n = omega arith in
    let before_place : suc (matching_place K n) - 1 ≡ matching_place K n = omega arith in
    let still : front_at (cut T K) l (suc (matching_place K n)) ≡ front_at (cut T K) l (matching_place K n) = rw before_place at same in
    let place : front_at (cut T K) l (matching_place K (suc n)) ≡ front_at (cut T K) l (suc (matching_place K n)) = ap (front_at (cut T K) l) (place-kept K n keep.rising has) in
    let equal : front_at T l (suc n) ≡ front_at T l n = keep_fronts T K l (suc n) keep ∙ place ∙ still ∙ sym (keep_fronts T K l n keep) in
    raises (rw before equal)

-- no act of a cut trace stands between two others, if its origin can't
none-between : (T : Recording) (K : List ℕ) (m n : ℕ) (a : Act) → IsSelection T K → ((k : ℕ) → suc m < k → k < suc n → ¬ IsAct T k a) →
    (k : ℕ) → suc (matching_place K m) < k → k < suc (matching_place K n) → ¬ IsAct (cut T K) k a
none-between T K m n a selection none k after by is =
    let o = act-origin T K k a selection is in
    let later : m < o.before = earlier-origin K m o.before (omega (arith, o.place)) in
    let earlier : o.before < n = earlier-origin K o.before n (omega (arith, o.place)) in
    none (suc o.before) (omega arith) (omega arith) o.is_act

-- a kept flush is useful in the trimmed trace
needed-again : (T : Recording) (K : List ℕ) (t l n : ℕ) → IsKeep T K → Has K (suc n) → IsNeededFlush T t l (suc n) → IsKept (cut T K) (suc (matching_place K n))
needed-again T K t l n keep has f = ByFlush (record {
  thread = t;
  line = l;
  fence = suc (matching_place K f.before);
  is_flush = cut-act T K n (Flushes t l) selection has f.is_flush;
  is_fence = cut-act T K f.before (Fences t) selection (needing-kept T K t l (suc n) keep f) f.is_fence;
  later = omega (arith, earlier-selected T K n f.before selection has (omega (arith, f.later)));
  next_fence = none-between T K n f.before (Fences t) selection f.next_fence;
  last_flush = none-between T K n f.before (Flushes t l) selection f.last_flush;
  needed = needed;
})
  where
    selection : IsSelection T K
    selection = keep_is_selection T K keep

    needed : front_at (cut T K) l (suc (matching_place K f.before) - 1) < count_at (cut T K) l (suc (matching_place K n))
    needed =
        let before : suc (matching_place K f.before) - 1 ≡ matching_place K f.before = omega arith in
        rw before (omega (arith, f.needed, keep_fronts T K l f.before keep, count-selected T K l n selection has))

-- a kept event would be kept again
kept-again : (T : Recording) (K : List ℕ) (n : ℕ) → IsKeep T K → Has K (suc n) → IsKept T (suc n) → IsKept (cut T K) (suc (matching_place K n))
kept-again T K n keep has (Stays a is stays) = Stays a (cut-act T K n a (keep_is_selection T K keep) has is) stays
kept-again T K n keep has (ByFence u) = ByFence (record {
  thread = u.thread;
  line = u.line;
  is_fence = cut-act T K n (Fences u.thread) (keep_is_selection T K keep) has u.is_fence;
  raises = raises-again T K u.line n keep has u.raises;
})
kept-again T K n keep has (ByFlush u) = needed-again T K u.thread u.line n keep has (useful-needed T (suc n) u)
kept-again T K n keep has (ByClflush u) = ByClflush (record {
  line = u.line;
  is_clflush = cut-act T K n (Clflushes u.line) (keep_is_selection T K keep) has u.is_clflush;
  raises = raises-again T K u.line n keep has u.raises;
})

-- each event of a trimmed trace would be kept again
pub trimmed_twice : TrimmedAgain
trimmed_twice T K zero keep above within = absurd (omega arith)
trimmed_twice T K (suc m) keep above within =
    let some = event-some (cut T K) m within in
    let o = act-origin T K (suc m) (act T.format some.0) (keep_is_selection T K keep) (some.0, some.1, refl) in
    subst (IsKept (cut T K)) o.place (kept-again T K o.before keep o.has ((keep.just (suc o.before)).0 o.has))
