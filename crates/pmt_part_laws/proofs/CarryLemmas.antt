-- The carry at the end of a stretch, by its part.
use Rattle.pmt_part_laws.proofs.Prelude.{ℕ, inl, inr, List, arith, cases_lt, Stores, Flushes, Fences, Recording, IsAct, Has, cut, matching_place, front-mono, place-mono, IsSubsequence, kept-act, act-origin, placed-later, later-origin, IsPending, IsLastOpen, IsCarried, IsPart, PartCarries}
use Rattle.pmt_part_laws.proofs.StepLemmas.{part-subsequence, has-stretch, part-by, store-kept}
use Rattle.pmt_part_laws.proofs.FrontLemmas.{count-part, front-part}
use Rattle.pmt_part_laws.proofs.OriginLemmas.{act-back, fence-kept, again-kept}

module _ (T : Recording) (q r : ℕ) (K : List ℕ) (k : ℕ) (part : IsPart T q r K) where
  s : IsSubsequence T K
  s = part-subsequence T q r K part

  -- a store that is pending at the end of the stretch is so at the end of the part
  pending-there : IsPending T r k → Has K k × IsCarried (cut T K) (matching_place K r) (matching_place K k)
  pending-there x =
      let grown = front-mono T x.line q r part.order in
      let has = store-kept T q r K x.line k x.what part x.by_now x.is_store (omega (arith, x.above, grown)) in (
        has,
        inl (record {
          line = x.line;
          what = x.what;
          is_store = kept-act T K k (Stores x.line x.what) s has x.is_store;
          by_now = place-mono K k r x.by_now;
          above = omega (arith, x.above, grown, count-part T q r K x.line k part x.by_now, front-part T q r K x.line r part (omega arith));
        }),
      )

  pending-back : Has K k → IsPending (cut T K) (matching_place K r) (matching_place K k) → IsPending T r k
  pending-back has x =
      let by = part-by T q r K k part has in
      record {
        line = x.line;
        what = x.what;
        is_store = act-back T q r K k (Stores x.line x.what) part has x.is_store;
        by_now = by;
        above = omega (arith, x.above, count-part T q r K x.line k part by, front-part T q r K x.line r part (omega arith));
      }

  -- the last flush of a line by a thread that has not fenced since is in the part
  open-there : IsLastOpen T r k → Has K k × IsCarried (cut T K) (matching_place K r) (matching_place K k)
  open-there x = (
    has,
    inr (record {
      thread = x.thread;
      line = x.line;
      is_flush = kept-act T K k (Flushes x.thread x.line) s has x.is_flush;
      by_now = place-mono K k r x.by_now;
      last = λ j later by flush.
          let o = act-origin T K j (Flushes x.thread x.line) s flush in
          x.last o.number (later-origin K k o.number (omega (arith, later, o.place))) (part-by T q r K o.number part o.chosen) o.is_act;
      unfenced = λ j later by fence.
          let o = act-origin T K j (Fences x.thread) s fence in
          x.unfenced o.number (later-origin K k o.number (omega (arith, later, o.place))) (part-by T q r K o.number part o.chosen) o.is_act;
    }),
  )
    where
      has : Has K k
      has = elim (cases_lt q k) [
        | inl late ↦ has-stretch T q r K k part late x.by_now
        | inr early ↦ (part.just k).1 (inl (inr (record {
          thread = x.thread;
          line = x.line;
          is_flush = x.is_flush;
          by_now = early;
          last = λ j later by flush. x.last j later (omega (arith, by, part.order)) flush;
          unfenced = λ j later by fence. x.unfenced j later (omega (arith, by, part.order)) fence;
        })))
      ]

  open-back : Has K k → IsLastOpen (cut T K) (matching_place K r) (matching_place K k) → IsLastOpen T r k
  open-back has x = record {
    thread = x.thread;
    line = x.line;
    is_flush = is;
    by_now = part-by T q r K k part has;
    last = λ j later by flush.
        let chosen = (again-kept T q r K x.thread x.line k j part has is later by flush).1 in
        x.last (matching_place K j) (placed-later T K k j s chosen later) (place-mono K j r by) (kept-act T K j (Flushes x.thread x.line) s chosen flush);
    unfenced = λ j later by fence.
        let chosen = (fence-kept T q r K x.thread x.line k j part has is later by fence).1 in
        x.unfenced (matching_place K j) (placed-later T K k j s chosen later) (place-mono K j r by) (kept-act T K j (Fences x.thread) s chosen fence);
  }
    where
      is : IsAct T k (Flushes x.thread x.line)
      is = act-back T q r K k (Flushes x.thread x.line) part has x.is_flush

pub part_carries : PartCarries
part_carries T q r K k part = (there, back)
  where
    there : IsCarried T r k → Has K k × IsCarried (cut T K) (matching_place K r) (matching_place K k)
    there (inl store) = pending-there T q r K k part store
    there (inr flush) = open-there T q r K k part flush

    back : Has K k × IsCarried (cut T K) (matching_place K r) (matching_place K k) → IsCarried T r k
    back (has, inl store) = inl (pending-back T q r K k part has store)
    back (has, inr flush) = inr (open-back T q r K k part has flush)
