-- Stores that are overwritten, in a trace and in the trace cut to a part.
use Rattle.pmt_part_laws.proofs.Prelude.{◌≡◌, ℕ, zero, suc, ◌<◌, ◌≤◌, inl, inr, refl, sym, subst, ◌∙◌, arith, cases_lt, Written, Act, Stores, Flushes, Clflushes, Recording, IsAct, count_at, front_at, IsFlushOf, ByFlush, ByClflush, IsOverwritten, Has, cut, matching_place, act-unique, act-within, IsFrontOf, front-reached, store-by, count-at_store, IsSubsequence, kept-act, act-origin, placed-later, later-origin, PartOverwrites}
use Rattle.pmt_part_laws.proofs.ByteLemmas.{byte-line}
use Rattle.pmt_part_laws.proofs.StepLemmas.{part-subsequence, has-stretch, store-kept}
use Rattle.pmt_part_laws.proofs.PersistLemmas.{later-kept}
use Rattle.pmt_part_laws.proofs.OriginLemmas.{act-back, flushed-kept, flush-origin, flush-kept}

-- a store whose line is not flushed after it up to place q is pending there
unflushed-above : (T : Recording) (l j q : ℕ) (w : Written) → IsAct T j (Stores l w) → ((k : ℕ) → j < k → k ≤ q → ¬ IsFlushOf T l k) → front_at T l q < count_at T l j
unflushed-above T l j q w is unflushed = elim (cases_lt (front_at T l q) (count_at T l j)) [ inl above ↦ above | inr safe ↦ absurd (go safe (front-reached T l q)) ]
  where
    some : 1 ≤ count_at T l j
    some = ranked j is
      where
        ranked : (i : ℕ) → IsAct T i (Stores l w) → 1 ≤ count_at T l i
        ranked zero at = absurd (omega (arith, (act-within T 0 (Stores l w) at).0))
        ranked (suc m) at = omega (arith, count-at_store T l m w at)

    -- a flush that counts the store comes after it
    after : (k : ℕ) (a : Act) → IsAct T k a → (a ≡ Stores l w → ⊥) → count_at T l j ≤ count_at T l k → j < k
    after k a at other counts =
        let by = store-by T l j k w is counts in
        elim (cases_lt j k) [ inl before ↦ before | inr same ↦ let e : j ≡ k = omega arith in absurd (other (act-unique T k a (Stores l w) at (subst (λ i. IsAct T i (Stores l w)) e is))) ]

    go : count_at T l j ≤ front_at T l q → IsFrontOf T l q (front_at T l q) → ⊥
    go safe (inl none) = omega (arith, some, none, safe)
    go safe (inr (inl x)) = unflushed x.flush (after x.flush (Flushes x.thread l) x.is_flush (λ e. cc) (omega (arith, safe, x.stores))) (omega (arith, x.later, x.by_now)) (ByFlush x.thread x.is_flush)
    go safe (inr (inr x)) = unflushed x.clflush (after x.clflush (Clflushes l) x.is_clflush (λ e. cc) (omega (arith, safe, x.stores))) x.by_now (ByClflush x.is_clflush)

pub part_overwrites : PartOverwrites
part_overwrites T q r K j i formed part after within = (there, back)
  where
    s : IsSubsequence T K
    s = part-subsequence T q r K part

    has_later : Has K i
    has_later = has-stretch T q r K i part after within

    there : IsOverwritten T j i → Has K j × IsOverwritten (cut T K) (matching_place K j) (matching_place K i)
    there it = (
      has,
      record {
        line = it.line;
        earlier = it.earlier;
        later = it.later;
        byte = it.byte;
        is_earlier = kept-act T K j (Stores it.line it.earlier) s has it.is_earlier;
        is_later = kept-act T K i (Stores it.line it.later) s has_later it.is_later;
        order = placed-later T K j i s has_later it.order;
        writes_earlier = it.writes_earlier;
        writes_later = it.writes_later;
        last = λ k l w more less store.
            let o = act-origin T K k (Stores l w) s store in
            it.last o.number l w (later-origin K j o.number (omega (arith, more, o.place))) (later-origin K o.number i (omega (arith, less, o.place))) o.is_act;
        unflushed = λ k more less flush.
            let o = flush-origin T q r K it.line k part flush in
            it.unflushed o.0 (later-origin K j o.0 (omega (arith, more, o.2))) (later-origin K o.0 i (omega (arith, less, o.2))) o.3;
      },
    )
      where
        has : Has K j
        has =
            let above = unflushed-above T it.line j q it.earlier it.is_earlier (λ k more by flush. it.unflushed k more (omega (arith, by, after)) flush) in
            store-kept T q r K it.line j it.earlier part (omega (arith, it.order, within)) it.is_earlier above

    back : Has K j × IsOverwritten (cut T K) (matching_place K j) (matching_place K i) → IsOverwritten T j i
    back (has, it) = record {
      line = it.line;
      earlier = it.earlier;
      later = it.later;
      byte = it.byte;
      is_earlier = own;
      is_later = act-back T q r K i (Stores it.line it.later) part has_later it.is_later;
      order = order;
      writes_earlier = it.writes_earlier;
      writes_later = it.writes_later;
      last = λ k l w more less store wrote.
          let line : l ≡ it.line = sym (byte-line T k l w it.byte formed store wrote) ∙ byte-line T j it.line it.earlier it.byte formed own it.writes_earlier in
          let here : IsAct T k (Stores it.line w) = subst (λ m. IsAct T k (Stores m w)) line store in
          let by : k ≤ r = omega (arith, less, within) in
          let chosen = later-kept T q r K it.line j k it.earlier w part by has own more here in
          it.last (matching_place K k) it.line w (placed-later T K j k s chosen more) (placed-later T K k i s has_later less) (kept-act T K k (Stores it.line w) s chosen here) wrote;
      unflushed = λ k more less flush. go k more less flush i refl;
    }
      where
        own : IsAct T j (Stores it.line it.earlier)
        own = act-back T q r K j (Stores it.line it.earlier) part has it.is_earlier

        order : j < i
        order = later-origin K j i it.order

        go : (k : ℕ) → j < k → k < i → IsFlushOf T it.line k → (e : ℕ) → e ≡ i → ⊥
        go k more less flush zero e = absurd (omega (arith, less, e))
        go k more less flush (suc n) e =
            let by : k ≤ n = omega (arith, less, e) in
            let late : q ≤ n = omega (arith, after, e) in
            let in_time : n ≤ r = omega (arith, within, e) in
            let m = flushed-kept T q r K it.line j k n it.earlier part has own late in_time more by flush in
            let before : m.0 < i = omega (arith, m.2, e) in
            it.unflushed (matching_place K m.0) (placed-later T K j m.0 s m.3 m.1) (placed-later T K m.0 i s has_later before) (flush-kept T q r K it.line m.0 part m.3 m.4)
