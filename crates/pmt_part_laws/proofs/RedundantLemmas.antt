-- Flushes that are redundant, in a trace and in the trace cut to a part.
use Rattle.pmt_part_laws.proofs.Prelude.{◌≡◌, ℕ, zero, suc, ◌-◌, ◌<◌, ◌≤◌, max, inl, inr, List, Option, Some, None, unwrap_or, sym, ap, subst, ◌∙◌, arith, ◌⊎◌, ◌↔◌, cases_lt, Flushes, Clflushes, Fences, Recording, IsAct, history, count_at, mark, open_mark, front_at, IsRedundantFlush, IsRedundantClflush, Has, cut, matching_place, count-mono, front-mono, place-kept, place-mono, mark-greatest, IsLastFlush, last-flush, IsSubsequence, kept-act, act-origin, placed-later, later-origin, placed-by, IsPart, PartRedundantFlush, PartRedundantClflush}
use Rattle.pmt_laws.proofs.RedundantLemmas.{IsUnfenced, OpenFlush, open_mark-tells, redundant_flush_by_fronts, redundant_clflush_by_fronts}
use Rattle.pmt_part_laws.proofs.StepLemmas.{part_history, part-subsequence, has-stretch}
use Rattle.pmt_part_laws.proofs.FrontLemmas.{count-part, front-part, last-kept}
use Rattle.pmt_part_laws.proofs.OriginLemmas.{act-back, fence-kept}

-- the part has the open marks of the whole, less what is safe at place q
pub open-part : (T : Recording) (q r : ℕ) (K : List ℕ) (t l n : ℕ) → IsPart T q r K → q ≤ n → n ≤ r →
    unwrap_or (open_mark t l (part_history T K n)) 0 ≡ unwrap_or (open_mark t l (history T n)) 0 - front_at T l q
open-part T q r K t l n part after within =
    let whole = open_mark-tells T t l n in
    let own = open_mark-tells (cut T K) t l (matching_place K n) in
    omega (arith, most (open_mark t l (part_history T K n)) (open_mark t l (history T n)) own whole, least (open_mark t l (part_history T K n)) (open_mark t l (history T n)) own whole)
  where
    s : IsSubsequence T K
    s = part-subsequence T q r K part

    most : (o p : Option ℕ) → OpenFlush (cut T K) t l (matching_place K n) o → OpenFlush T t l n p → unwrap_or o 0 ≤ unwrap_or p 0 - front_at T l q
    most None p own whole = omega arith
    most (Some c) p own whole = go p whole
      where
        k : ℕ
        k = (act-origin T K own.flush (Flushes t l) s own.is_flush).number

        has : Has K k
        has = (act-origin T K own.flush (Flushes t l) s own.is_flush).chosen

        place : matching_place K k ≡ own.flush
        place = (act-origin T K own.flush (Flushes t l) s own.is_flush).place

        is : IsAct T k (Flushes t l)
        is = (act-origin T K own.flush (Flushes t l) s own.is_flush).is_act

        by : k ≤ n
        by = placed-by T K k n s has (omega (arith, own.by_now, place))

        unfenced : IsUnfenced T t k n
        unfenced j later by_now fence =
            let chosen = (fence-kept T q r K t l k j part has is later (omega (arith, by_now, within)) fence).1 in
            own.unfenced (matching_place K j) (omega (arith, placed-later T K k j s chosen later, place)) (place-mono K j n by_now) (kept-act T K j (Fences t) s chosen fence)

        counted : c ≡ count_at T l k - front_at T l q
        counted = sym own.stores ∙ ap (count_at (cut T K) l) (sym place) ∙ count-part T q r K l k part (omega (arith, by, within))

        go : (p : Option ℕ) → OpenFlush T t l n p → c ≤ unwrap_or p 0 - front_at T l q
        go None none = absurd (none k by is unfenced)
        go (Some d) tells = omega (arith, counted, tells.greatest k by is unfenced)

    least : (o p : Option ℕ) → OpenFlush (cut T K) t l (matching_place K n) o → OpenFlush T t l n p → unwrap_or p 0 - front_at T l q ≤ unwrap_or o 0
    least o None own whole = omega arith
    least o (Some d) own whole = elim (cases_lt (front_at T l q) d) [ inl above ↦ go above (last-flush T t l n) | inr safe ↦ omega (arith, safe) ]
      where
        kept : (i : ℕ) → IsLastFlush T t l n i → whole.flush ≤ i → front_at T l q < d → (o : Option ℕ) → OpenFlush (cut T K) t l (matching_place K n) o → d - front_at T l q ≤ unwrap_or o 0
        kept i found since above = tell
          where
            counts : d ≤ count_at T l i
            counts = omega (arith, whole.stores, count-mono T l whole.flush i since)

            has : Has K i
            has = last-kept T q r K t l n i part after within found (omega (arith, above, counts))

            unfenced : IsUnfenced (cut T K) t (matching_place K i) (matching_place K n)
            unfenced j later by_now fence =
                let f = act-origin T K j (Fences t) s fence in
                let more : i < f.number = later-origin K i f.number (omega (arith, later, f.place)) in
                whole.unfenced f.number (omega (arith, since, more)) (placed-by T K f.number n s f.chosen (omega (arith, by_now, f.place))) f.is_act

            tell : (o : Option ℕ) → OpenFlush (cut T K) t l (matching_place K n) o → d - front_at T l q ≤ unwrap_or o 0
            tell None none = absurd (none (matching_place K i) (place-mono K i n found.by_now) (kept-act T K i (Flushes t l) s has found.is_flush) unfenced)
            tell (Some c) tells =
                let most_of = tells.greatest (matching_place K i) (place-mono K i n found.by_now) (kept-act T K i (Flushes t l) s has found.is_flush) unfenced in
                omega (arith, most_of, counts, count-part T q r K l i part (omega (arith, found.by_now, within)))

        go : front_at T l q < d → (mark t l (history T n) ≡ 0) ⊎ ((i : ℕ) × IsLastFlush T t l n i) → d - front_at T l q ≤ unwrap_or o 0
        go above (inl none) = absurd (omega (arith, above, none, whole.stores, mark-greatest T t l whole.flush n whole.is_flush whole.by_now))
        go above (inr (i, found)) =
            let since : whole.flush ≤ i = elim (cases_lt i whole.flush) [ inl before ↦ absurd (found.none_later whole.flush before whole.by_now whole.is_flush) | inr more ↦ more ] in
            kept i found since above o own

-- a flush is redundant by what stands just before it
flush-form : (T : Recording) (t l i n : ℕ) → IsAct T i (Flushes t l) → i - 1 ≡ n → IsRedundantFlush T t l i ↔ (count_at T l i ≤ max (front_at T l n) (unwrap_or (open_mark t l (history T n)) 0))
flush-form T t l i n is before =
    let P : ℕ → Type 0 = λ m. IsRedundantFlush T t l i ↔ (count_at T l i ≤ max (front_at T l m) (unwrap_or (open_mark t l (history T m)) 0)) in
    subst P before (redundant_flush_by_fronts T t l i is)

clflush-form : (T : Recording) (l i n : ℕ) → IsAct T i (Clflushes l) → i - 1 ≡ n → IsRedundantClflush T l i ↔ (count_at T l i ≤ front_at T l n)
clflush-form T l i n is before =
    let P : ℕ → Type 0 = λ m. IsRedundantClflush T l i ↔ (count_at T l i ≤ front_at T l m) in
    subst P before (redundant_clflush_by_fronts T l i is)

-- what is known of the flush at suc n of the stretch
module _ (T : Recording) (q r : ℕ) (K : List ℕ) (l n : ℕ) (part : IsPart T q r K) (after : q ≤ n) (within : suc n ≤ r) where
  has : Has K (suc n)
  has = has-stretch T q r K (suc n) part (omega (arith, after)) within

  part_before : matching_place K (suc n) - 1 ≡ matching_place K n
  part_before = omega (arith, place-kept K n part.rising has)

  before : suc n - 1 ≡ n
  before = omega arith

  counts : count_at (cut T K) l (matching_place K (suc n)) ≡ count_at T l (suc n) - front_at T l q
  counts = count-part T q r K l (suc n) part within

  fronts : front_at (cut T K) l (matching_place K n) ≡ front_at T l n - front_at T l q
  fronts = front-part T q r K l n part (omega arith)

  flush-same : (t : ℕ) → IsAct T (suc n) (Flushes t l) → IsRedundantFlush T t l (suc n) ↔ IsRedundantFlush (cut T K) t l (matching_place K (suc n))
  flush-same t is =
      let form = flush-form T t l (suc n) n is before in
      let own = flush-form (cut T K) t l (matching_place K (suc n)) (matching_place K n) (kept-act T K (suc n) (Flushes t l) (part-subsequence T q r K part) has is) part_before in
      let marks = open-part T q r K t l n part after (omega arith) in (
        λ it. own.1 (omega (arith, form.0 it, counts, fronts, marks)),
        λ it. form.1 (omega (arith, own.0 it, counts, fronts, marks, front-mono T l q n after)),
      )

  clflush-same : IsAct T (suc n) (Clflushes l) → IsRedundantClflush T l (suc n) ↔ IsRedundantClflush (cut T K) l (matching_place K (suc n))
  clflush-same is =
      let form = clflush-form T l (suc n) n is before in
      let own = clflush-form (cut T K) l (matching_place K (suc n)) (matching_place K n) (kept-act T K (suc n) (Clflushes l) (part-subsequence T q r K part) has is) part_before in (
        λ it. own.1 (omega (arith, form.0 it, counts, fronts)),
        λ it. form.1 (omega (arith, own.0 it, counts, fronts, front-mono T l q n after)),
      )

pub part_redundant_flush : PartRedundantFlush
part_redundant_flush T q r K t l zero part after within = absurd (omega (arith, after))
part_redundant_flush T q r K t l (suc n) part after within = (
  λ it. (flush-same T q r K l n part (omega (arith, after)) within t it.is_flush).0 it,
  λ it. (flush-same T q r K l n part (omega (arith, after)) within t (act-back T q r K (suc n) (Flushes t l) part (has-stretch T q r K (suc n) part after within) it.is_flush)).1 it,
)

pub part_redundant_clflush : PartRedundantClflush
part_redundant_clflush T q r K l zero part after within = absurd (omega (arith, after))
part_redundant_clflush T q r K l (suc n) part after within = (
  λ it. (clflush-same T q r K l n part (omega (arith, after)) within it.is_clflush).0 it,
  λ it. (clflush-same T q r K l n part (omega (arith, after)) within (act-back T q r K (suc n) (Clflushes l) part (has-stretch T q r K (suc n) part after within) it.is_clflush)).1 it,
)
