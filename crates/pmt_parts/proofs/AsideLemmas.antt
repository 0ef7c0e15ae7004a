-- Assertions that are set aside, by the part and by the whole.
use Rattle.pmt_parts.proofs.Prelude.{◌≡◌, ℕ, ◌<◌, ◌≤◌, List, sym, subst, ◌∙◌, arith, Stores, Recording, cut, matching_place, act-within, place-mono, IsUnwritten, IsSubsequence, kept-event, kept-act, act-origin, placed-later, placed-by, later-origin, ByteRange, IsPartBut, IsOlderOrdered, AsideByWhole, AsideIsAll}
use Rattle.pmt_laws.proofs.OverwrittenLemmas.{IsLastWriter, last_store_number-is}
use Rattle.pmt_parts.proofs.PartsCarryLemmas.{subsequence, has-late}

module _ (T : Recording) (ranges : List ByteRange) (q r : ℕ) (K : List ℕ) (part : IsPartBut T ranges q r K) where
  s : IsSubsequence T K
  s = subsequence T ranges q r K part

  -- a byte that no store of the stretch writes is one that no store of the part after the place writes
  unwritten-there : (n b : ℕ) → IsUnwritten T q n b → IsUnwritten (cut T K) (matching_place K q) (matching_place K n) b
  unwritten-there n b none k l w after by is =
      let o = act-origin T K k (Stores l w) s is in
      none o.number l w (later-origin K q o.number (omega (arith, after, o.place))) (placed-by T K o.number n s o.chosen (omega (arith, by, o.place))) o.is_act

  unwritten-back : (n b : ℕ) → n ≤ r → IsUnwritten (cut T K) (matching_place K q) (matching_place K n) b → IsUnwritten T q n b
  unwritten-back n b within none k l w after by is =
      let has = has-late T ranges q r K part k after (omega (arith, by, within)) in
      none (matching_place K k) l w (placed-later T K q k s has after) (place-mono K k n by) (kept-act T K k (Stores l w) s has is)

  ordered-there : (n before : ℕ) → q ≤ before → n ≤ r → IsOlderOrdered T q before n → IsOlderOrdered (cut T K) (matching_place K q) (matching_place K before) (matching_place K n)
  ordered-there n before from within x =
      let has = has-late T ranges q r K part n x.after within in
      record {
        after = placed-later T K q n s has x.after;
        answered = placed-later T K before n s has x.answered;
        range = x.range;
        ordered = (x.ordered.0, kept-event T K n s has ∙ x.ordered.1, x.ordered.2, x.ordered.3);
        older = (x.older.0, x.older.1, unwritten-there n x.older.0 x.older.2);
      }

  ordered-back : (n before : ℕ) → q < n → n ≤ r → IsOlderOrdered (cut T K) (matching_place K q) (matching_place K before) (matching_place K n) → IsOlderOrdered T q before n
  ordered-back n before after within x =
      let has = has-late T ranges q r K part n after within in
      record {
        after = after;
        answered = later-origin K before n x.answered;
        range = x.range;
        ordered = (x.ordered.0, sym (kept-event T K n s has) ∙ x.ordered.1, x.ordered.2, x.ordered.3);
        older = (x.older.0, x.older.1, unwritten-back n x.older.0 within x.older.2);
      }

pub aside_by_whole : AsideByWhole
aside_by_whole T ranges p n it answered by = (
  λ x. (x.0, ordered-back T ranges p.place p.end K it.part n p.before (omega (arith, it.order, answered)) by (subst Older same x.1)),
  λ x. (x.0, subst Older (sym same) (ordered-there T ranges p.place p.end K it.part n p.before it.order by x.1)),
)
  where
    K : List ℕ
    K = p.numbers.items

    same : p.trace ≡ cut T K
    same = it.trace

    Older : Recording → Type 0
    Older P = IsOlderOrdered P (matching_place K p.place) (matching_place K p.before) (matching_place K n)

pub aside_is_all : AsideIsAll
aside_is_all T ranges p n B it answered by ordered aside = (aside_by_whole T ranges p n it answered by).1 (
  omega (arith, (act-within T aside.store (Stores aside.line aside.is_last.what) aside.is_last.is_store).0, aside.old),
  record {
    after = omega (arith, it.order, answered);
    answered = answered;
    range = B;
    ordered = ordered;
    older = (aside.is_last.byte, aside.is_last.within, none);
  },
)
  where
    last : IsLastWriter T aside.is_last.byte n aside.store
    last = last_store_number-is T aside.is_last.byte n aside.store aside.is_last.last

    none : IsUnwritten T p.place n aside.is_last.byte
    none k l w after now is = last.last k l w (omega (arith, aside.old, after)) now is
