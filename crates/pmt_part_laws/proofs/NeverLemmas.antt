-- Stores that are never persisted, in a trace and in the trace cut to its last part.
use Rattle.pmt_part_laws.proofs.Prelude.{◌≡◌, ℕ, zero, suc, ◌-◌, ◌<◌, ◌≤◌, inl, inr, List, [], ◌∷◌, length, filter_map, Some, refl, sym, ap, ◌∙◌, arith, le-leb, Event, Stores, Flushes, Clflushes, Recording, event, IsAct, front_at, IsNeverPersisted, IsFlushedAfter, IsFlushOf, ByFlush, ByClflush, Has, cut, matching_place, act-within, event-some, front-mono, has-above, IsSubsequence, kept-act, placed-later, later-origin, IsPart, PartNeverPersists, PartFlushedAfter}
use Rattle.pmt_laws.proofs.NeverLemmas.{never_persisted_by_fronts}
use Rattle.pmt_part_laws.proofs.StepLemmas.{part-subsequence, part-by, store-kept}
use Rattle.pmt_part_laws.proofs.FrontLemmas.{count-part, front-part}
use Rattle.pmt_part_laws.proofs.OriginLemmas.{flushed-kept, flush-origin, flush-kept}

-- a flush is an event
flush-ends : (T : Recording) (l j : ℕ) → IsFlushOf T l j → j ≤ length T.events
flush-ends T l j (ByFlush t is) = (act-within T j (Flushes t l) is).1
flush-ends T l j (ByClflush is) = (act-within T j (Clflushes l) is).1

-- the matching place of a place that no number passes is how many numbers there are
place-all : (K : List ℕ) (n : ℕ) → ((k : ℕ) → Has K k → k ≤ n) → matching_place K n ≡ length K
place-all [] n by = refl
place-all (k ∷ ks) n by = rw (le-leb k n (by k (inl refl))) (ap suc (place-all ks n (λ j has. by j (inr has))))

-- a cut has as many events as there are numbers of events
length-cut : (T : Recording) (K : List ℕ) → ((k : ℕ) → Has K k → (e : Event) × (event T k ≡ Some e)) → length (filter_map (event T) K) ≡ length K
length-cut T [] there = refl
length-cut T (k ∷ ks) there = let first = there k (inl refl) in rw (first.1) (ap suc (length-cut T ks (λ j has. there j (inr has))))

-- the part ends where its stretch does
pub part-ends : (T : Recording) (q r : ℕ) (K : List ℕ) → IsPart T q r K → length (cut T K).events ≡ matching_place K r
part-ends T q r K part = length-cut T K there ∙ sym (place-all K r (λ k has. part-by T q r K k part has))
  where
    there : (k : ℕ) → Has K k → (e : Event) × (event T k ≡ Some e)
    there zero has = let above : 0 < 0 = has-above 0 K 0 part.rising has in absurd (omega (arith, above))
    there (suc n) has = event-some T n (omega (arith, part-by T q r K (suc n) part has, part.within))

pub part_never_persists : PartNeverPersists
part_never_persists T q K l k w part is = (there, back)
  where
    n : ℕ
    n = length T.events

    fronts : front_at (cut T K) l (length (cut T K).events) ≡ front_at T l n - front_at T l q
    fronts = ap (front_at (cut T K) l) (part-ends T q n K part) ∙ front-part T q n K l n part (omega arith)

    own : Has K k → IsAct (cut T K) (matching_place K k) (Stores l w)
    own has = kept-act T K k (Stores l w) (part-subsequence T q n K part) has is

    there : IsNeverPersisted T l k → Has K k × IsNeverPersisted (cut T K) l (matching_place K k)
    there never =
        let below = (never_persisted_by_fronts T l k w is).0 never in
        let grown = front-mono T l q n part.order in
        let has = store-kept T q n K l k w part (act-within T k (Stores l w) is).1 is (omega (arith, below, grown)) in
        (has, (never_persisted_by_fronts (cut T K) l (matching_place K k) w (own has)).1 (omega (arith, below, grown, fronts, count-part T q n K l k part (part-by T q n K k part has))))

    back : Has K k × IsNeverPersisted (cut T K) l (matching_place K k) → IsNeverPersisted T l k
    back (has, never) =
        let below = (never_persisted_by_fronts (cut T K) l (matching_place K k) w (own has)).0 never in
        (never_persisted_by_fronts T l k w is).1 (omega (arith, below, fronts, count-part T q n K l k part (part-by T q n K k part has)))

pub part_flushed_after : PartFlushedAfter
part_flushed_after T q K l k w part has is = (there, back)
  where
    n : ℕ
    n = length T.events

    s : IsSubsequence T K
    s = part-subsequence T q n K part

    there : IsFlushedAfter T l k → IsFlushedAfter (cut T K) l (matching_place K k)
    there (j, later, flush) =
        let m = flushed-kept T q n K l k j n w part has is part.order (omega arith) later (flush-ends T l j flush) flush in
        (matching_place K m.0, placed-later T K k m.0 s m.3 m.1, flush-kept T q n K l m.0 part m.3 m.4)

    back : IsFlushedAfter (cut T K) l (matching_place K k) → IsFlushedAfter T l k
    back (j, later, flush) =
        let o = flush-origin T q n K l j part flush in
        (o.0, later-origin K k o.0 (omega (arith, later, o.2)), o.3)
