-- What a part without the ignored stores of its carry carries at each place of its stretch.
use Rattle.pmt_parts.proofs.Prelude.{◌≡◌, ℕ, ◌<◌, ◌≤◌, ◌⊎◌, inl, inr, false, List, length, refl, sym, ap, subst, ◌∙◌, le_antisymm, arith, ◌↔◌, cases_lt, Op, Written, Layout, Act, Stores, Flushes, Clflushes, Fences, Recording, IsAct, act_of, count_at, front_at, Has, cut, matching_place, act-unique, act-within, front-mono, place-mono, safe_store_at, front-below, ByFence, ByItself, IsCompletedAfter, ByteRange, is_op_ignored, is_event_ignored, is_ignored, IsSubsequence, kept-event, kept-act, act-origin, placed-later, later-origin, placed-by, completed-safe, IsPending, IsLastOpen, IsCarried, IsTaken, IsPartBut, PartCarriesAt}
use Rattle.pmt_model.specs.declared.event.Op.TheVariants as ops
use Rattle.pmt_part_laws.proofs.FenceLemmas.{flush-dec, last-since, NoneSince}

-- ---- Any trace

-- a store is pending exactly if no flush of its line after it is complete
pending-is : (T : Recording) (l j n : ℕ) (w : Written) → IsAct T j (Stores l w) → (front_at T l n < count_at T l j) ↔ ¬ IsCompletedAfter T l j n
pending-is T l j n w is = (
  λ above done. omega (arith, (front-below T l n j w is).0 above, (completed-safe T l j n w is).0 done),
  λ none. (front-below T l n j w is).1 (elim (cases_lt (safe_store_at T l n) j) [ inl later ↦ later | inr safe ↦ absurd (none ((completed-safe T l j n w is).1 safe)) ]),
)

-- a flush is ignored by no range
flush-op : (f : Layout) (ranges : List ByteRange) (u t l : ℕ) (op : Op) → act_of f u op ≡ Flushes t l → is_op_ignored ranges op ≡ false
flush-op f ranges u t l (ops.Store w) e = absurd (cc)
flush-op f ranges u t l op e = refl

flush-told : (T : Recording) (ranges : List ByteRange) (k t l : ℕ) → IsAct T k (Flushes t l) → is_ignored T ranges k ≡ false
flush-told T ranges k t l (e, is, flushes) = ap (is_event_ignored ranges) is ∙ flush-op T.format ranges e.thread t l e.op flushes

module _ (T : Recording) (ranges : List ByteRange) (q r : ℕ) (K : List ℕ) (part : IsPartBut T ranges q r K) where
  -- ---- The part

  pub subsequence : IsSubsequence T K
  subsequence = record { rising = part.rising; within = λ k has. go k ((part.just k).0 has) }
    where
      go : (k : ℕ) → IsTaken T ranges q k ⊎ ((q < k) × (k ≤ r)) → k ≤ length T.events
      go k (inl (inl store, told)) = (act-within T k (Stores store.line store.what) store.is_store).1
      go k (inl (inr flush, told)) = (act-within T k (Flushes flush.thread flush.line) flush.is_flush).1
      go k (inr x) = omega (arith, x.1, part.within)

  pub has-late : (k : ℕ) → q < k → k ≤ r → Has K k
  has-late k after by = (part.just k).1 (inr (after, by))

  -- an event up to the place is carried
  pub early : (k : ℕ) → Has K k → k ≤ q → IsTaken T ranges q k
  early k has by = elim ((part.just k).0 has) [ inl taken ↦ taken | inr x ↦ absurd (omega (arith, x.0, by)) ]

  pub by-end : (k : ℕ) → Has K k → k ≤ r
  by-end k has = go ((part.just k).0 has)
    where
      go : IsTaken T ranges q k ⊎ ((q < k) × (k ≤ r)) → k ≤ r
      go (inl (inl store, told)) = omega (arith, store.by_now, part.order)
      go (inl (inr flush, told)) = omega (arith, flush.by_now, part.order)
      go (inr x) = x.1

  -- an act of the part is that of the event that it comes from
  pub act-back : (k : ℕ) (a : Act) → Has K k → IsAct (cut T K) (matching_place K k) a → IsAct T k a
  act-back k a has is =
      let o = act-origin T K (matching_place K k) a subsequence is in
      let same : o.number ≡ k = le_antisymm (placed-by T K o.number k subsequence o.chosen (omega (arith, o.place))) (placed-by T K k o.number subsequence has (omega (arith, o.place))) in
      subst (λ i. IsAct T i a) same o.is_act

  pub told-same : (k : ℕ) → Has K k → is_ignored (cut T K) ranges (matching_place K k) ≡ is_ignored T ranges k
  told-same k has = ap (is_event_ignored ranges) (kept-event T K k subsequence has)

  -- of a store of the part that comes by place q no flush is complete there
  incomplete : (l j : ℕ) (w : Written) → Has K j → IsAct T j (Stores l w) → j ≤ q → ¬ IsCompletedAfter T l j q
  incomplete l j w has is by = go (early j has by).0
    where
      go : IsCarried T q j → ¬ IsCompletedAfter T l j q
      go (inl store) =
          let same = act-unique T j (Stores store.line store.what) (Stores l w) store.is_store is in
          let line : store.line ≡ l = cc in
          (pending-is T l j q w is).0 (subst (λ m. front_at T m q < count_at T m j) line store.above)
      go (inr flush) = let same = act-unique T j (Flushes flush.thread flush.line) (Stores l w) flush.is_flush is in absurd cc

  -- ---- Flushes that are complete

  complete-back : (l j n : ℕ) → IsCompletedAfter (cut T K) l (matching_place K j) (matching_place K n) → IsCompletedAfter T l j n
  complete-back l j n (i, after, ByFence t fence flush is later by) =
      let o = act-origin T K i (Flushes t l) subsequence flush in
      let p = act-origin T K fence (Fences t) subsequence is in (
        o.number,
        later-origin K j o.number (omega (arith, after, o.place)),
        ByFence t p.number o.is_act p.is_act (later-origin K o.number p.number (omega (arith, later, o.place, p.place))) (placed-by T K p.number n subsequence p.chosen (omega (arith, by, p.place))),
      )
  complete-back l j n (i, after, ByItself flush by) =
      let o = act-origin T K i (Clflushes l) subsequence flush in
      (o.number, later-origin K j o.number (omega (arith, after, o.place)), ByItself o.is_act (placed-by T K o.number n subsequence o.chosen (omega (arith, by, o.place))))

  -- the events of the part by which a flush is complete
  kept-fence : (l j n t i fence : ℕ) → q ≤ n → n ≤ r → j < i → i < fence → fence ≤ n → Has K i → Has K fence → IsAct T i (Flushes t l) → IsAct T fence (Fences t) →
      IsCompletedAfter (cut T K) l (matching_place K j) (matching_place K n)
  kept-fence l j n t i fence from within after later by has_flush has_fence flush is = (
    matching_place K i,
    placed-later T K j i subsequence has_flush after,
    ByFence t (matching_place K fence) (kept-act T K i (Flushes t l) subsequence has_flush flush) (kept-act T K fence (Fences t) subsequence has_fence is)
        (placed-later T K i fence subsequence has_fence later) (place-mono K fence n by),
  )

  -- a flush by place q whose thread has not fenced since, or a later one of its line by its thread, is carried
  open-kept : (l j t i : ℕ) → ¬ IsCompletedAfter T l j q → j < i → i ≤ q → IsAct T i (Flushes t l) → (k : ℕ) × (i ≤ k) × (k ≤ q) × Has K k × IsAct T k (Flushes t l)
  open-kept l j t i none after by flush = elim (last-since T (Flushes t l) i q (flush-dec t l)) [
    | inl x ↦ (x.0, omega (arith, x.1.after), x.1.by_now, carried x.0 (omega (arith, x.1.after)) x.1.by_now x.1.is_act x.1.none_later, x.1.is_act)
    | inr last ↦ (i, omega arith, by, carried i (omega arith) by flush last, flush)
  ]
    where
      carried : (k : ℕ) → i ≤ k → k ≤ q → IsAct T k (Flushes t l) → NoneSince T (Flushes t l) k q → Has K k
      carried k since now is last = (part.just k).1 (inl (
        inr (record {
          thread = t;
          line = l;
          is_flush = is;
          by_now = now;
          last = last;
          unfenced = λ m later before fence. none (k, omega (arith, after, since), ByFence t m is fence later before);
        }),
        flush-told T ranges k t l is,
      ))

  complete-there : (l j n : ℕ) (w : Written) → q ≤ n → n ≤ r → Has K j → IsAct T j (Stores l w) → IsCompletedAfter T l j n → IsCompletedAfter (cut T K) l (matching_place K j) (matching_place K n)
  complete-there l j n w from within has is (i, after, ByItself flush by) = elim (cases_lt q i) [
    | inl late ↦
        let chosen = has-late i late (omega (arith, by, within)) in
        (matching_place K i, placed-later T K j i subsequence chosen after, ByItself (kept-act T K i (Clflushes l) subsequence chosen flush) (place-mono K i n by))
    | inr soon ↦ absurd (incomplete l j w has is (omega (arith, after, soon)) (i, after, ByItself flush soon))
  ]
  complete-there l j n w from within has is (i, after, ByFence t fence flush at later by) = elim (cases_lt q fence) [
    | inl late ↦ elim (cases_lt q i) [
      | inl fresh ↦ kept-fence l j n t i fence from within after later by (has-late i fresh (omega (arith, later, by, within))) (has-late fence late (omega (arith, by, within))) flush at
      | inr old ↦
          let k = open-kept l j t i (incomplete l j w has is (omega (arith, after, old))) after old flush in
          kept-fence l j n t k.0 fence from within (omega (arith, after, k.1)) (omega (arith, k.2, late)) by k.3 (has-late fence late (omega (arith, by, within))) k.4 at
    ]
    | inr soon ↦ absurd (incomplete l j w has is (omega (arith, after, later, soon)) (i, after, ByFence t fence flush at later soon))
  ]

  module _ (n : ℕ) (from : q ≤ n) (within : n ≤ r) (k : ℕ) where
    -- ---- Stores

    has-pending : IsPending T n k → is_ignored T ranges k ≡ false → Has K k
    has-pending x told = elim (cases_lt q k) [
      | inl late ↦ has-late k late (omega (arith, x.by_now, within))
      | inr soon ↦
          let grown = front-mono T x.line q n from in
          (part.just k).1 (inl (inl (record { line = x.line; what = x.what; is_store = x.is_store; by_now = soon; above = omega (arith, x.above, grown) }), told))
    ]

    pending-there : Has K k → IsPending T n k → IsPending (cut T K) (matching_place K n) (matching_place K k)
    pending-there has x =
        let is = kept-act T K k (Stores x.line x.what) subsequence has x.is_store in
        record {
          line = x.line;
          what = x.what;
          is_store = is;
          by_now = place-mono K k n x.by_now;
          above = (pending-is (cut T K) x.line (matching_place K k) (matching_place K n) x.what is).1
              (λ done. (pending-is T x.line k n x.what x.is_store).0 x.above (complete-back x.line k n done));
        }

    pending-back : Has K k → IsPending (cut T K) (matching_place K n) (matching_place K k) → IsPending T n k
    pending-back has x =
        let is = act-back k (Stores x.line x.what) has x.is_store in
        record {
          line = x.line;
          what = x.what;
          is_store = is;
          by_now = placed-by T K k n subsequence has x.by_now;
          above = (pending-is T x.line k n x.what is).1
              (λ done. (pending-is (cut T K) x.line (matching_place K k) (matching_place K n) x.what x.is_store).0 x.above (complete-there x.line k n x.what from within has is done));
        }

    -- ---- Flushes

    has-open : IsLastOpen T n k → Has K k
    has-open x = elim (cases_lt q k) [
      | inl late ↦ has-late k late (omega (arith, x.by_now, within))
      | inr soon ↦ (part.just k).1 (inl (
        inr (record {
          thread = x.thread;
          line = x.line;
          is_flush = x.is_flush;
          by_now = soon;
          last = λ j later by flush. x.last j later (omega (arith, by, from)) flush;
          unfenced = λ j later by fence. x.unfenced j later (omega (arith, by, from)) fence;
        }),
        flush-told T ranges k x.thread x.line x.is_flush,
      ))
    ]

    open-there : Has K k → IsLastOpen T n k → IsLastOpen (cut T K) (matching_place K n) (matching_place K k)
    open-there has x = record {
      thread = x.thread;
      line = x.line;
      is_flush = kept-act T K k (Flushes x.thread x.line) subsequence has x.is_flush;
      by_now = place-mono K k n x.by_now;
      last = λ j later by flush.
          let o = act-origin T K j (Flushes x.thread x.line) subsequence flush in
          x.last o.number (later-origin K k o.number (omega (arith, later, o.place))) (placed-by T K o.number n subsequence o.chosen (omega (arith, by, o.place))) o.is_act;
      unfenced = λ j later by fence.
          let o = act-origin T K j (Fences x.thread) subsequence fence in
          x.unfenced o.number (later-origin K k o.number (omega (arith, later, o.place))) (placed-by T K o.number n subsequence o.chosen (omega (arith, by, o.place))) o.is_act;
    }

    -- a flush that is carried is the last one of its line by its thread, and no fence has come
    none-between : (t l j : ℕ) → Has K k → IsAct T k (Flushes t l) → k < j → j ≤ q → (IsAct T j (Flushes t l) → ⊥) × (IsAct T j (Fences t) → ⊥)
    none-between t l j has is after by = go (early k has (omega (arith, after, by))).0
      where
        go : IsCarried T q k → (IsAct T j (Flushes t l) → ⊥) × (IsAct T j (Fences t) → ⊥)
        go (inl store) = let same = act-unique T k (Stores store.line store.what) (Flushes t l) store.is_store is in absurd cc
        go (inr flush) =
            let same = act-unique T k (Flushes flush.thread flush.line) (Flushes t l) flush.is_flush is in
            let thread : flush.thread ≡ t = cc in
            let line : flush.line ≡ l = cc in (
              λ at. flush.last j after by (subst (λ u. IsAct T j (Flushes u flush.line)) (sym thread) (subst (λ m. IsAct T j (Flushes t m)) (sym line) at)),
              λ at. flush.unfenced j after by (subst (λ u. IsAct T j (Fences u)) (sym thread) at),
            )

    open-back : Has K k → IsLastOpen (cut T K) (matching_place K n) (matching_place K k) → IsLastOpen T n k
    open-back has x = record {
      thread = x.thread;
      line = x.line;
      is_flush = is;
      by_now = placed-by T K k n subsequence has x.by_now;
      last = λ j later by flush. elim (cases_lt q j) [
        | inl late ↦
            let chosen = has-late j late (omega (arith, by, within)) in
            x.last (matching_place K j) (placed-later T K k j subsequence chosen later) (place-mono K j n by) (kept-act T K j (Flushes x.thread x.line) subsequence chosen flush)
        | inr soon ↦ (none-between x.thread x.line j has is later soon).0 flush
      ];
      unfenced = λ j later by fence. elim (cases_lt q j) [
        | inl late ↦
            let chosen = has-late j late (omega (arith, by, within)) in
            x.unfenced (matching_place K j) (placed-later T K k j subsequence chosen later) (place-mono K j n by) (kept-act T K j (Fences x.thread) subsequence chosen fence)
        | inr soon ↦ (none-between x.thread x.line j has is later soon).1 fence
      ];
    }
      where
        is : IsAct T k (Flushes x.thread x.line)
        is = act-back k (Flushes x.thread x.line) has x.is_flush

    has-taken : IsTaken T ranges n k → Has K k
    has-taken (inl x, told) = has-pending x told
    has-taken (inr x, told) = has-open x

    carried-there : Has K k → IsCarried T n k → IsCarried (cut T K) (matching_place K n) (matching_place K k)
    carried-there has (inl x) = inl (pending-there has x)
    carried-there has (inr x) = inr (open-there has x)

    carried-back : Has K k → IsCarried (cut T K) (matching_place K n) (matching_place K k) → IsCarried T n k
    carried-back has (inl x) = inl (pending-back has x)
    carried-back has (inr x) = inr (open-back has x)

pub part_carries_at : PartCarriesAt
part_carries_at T ranges q r n K k part from within = (
  λ taken. let has = has-taken T ranges q r K part n from within k taken in (has, (carried-there T ranges q r K part n from within k has taken.0, told-same T ranges q r K part k has ∙ taken.1)),
  λ x. (carried-back T ranges q r K part n from within k x.0 x.1.0, sym (told-same T ranges q r K part k x.0) ∙ x.1.1),
)
