-- Of each dropped event a reason holds, and of a kept one none.
use Rattle.std.proofs.Common.{◌≡◌, ◌≢◌, ℕ, zero, suc, ◌-◌, ◌<◌, ◌≤◌, ◌⊎◌, inl, inr, true, length, refl, sym, ap, subst, ◌∙◌, arith}
use Rattle.std.proofs.lemmas.Bool.{cases_lt, cases_eq}
use Rattle.std.proofs.lemmas.Bool.Decides.{nat_tests}
use Rattle.pmt_laws.specs.Prelude.{Act, Flushes, Clflushes, Fences, count, Recording, IsAct, history, count_at, front, mark, front_at, always_stays}
use Rattle.pmt_model.specs.Keeping.{IsKept, Stays, ByFence, ByFlush, ByClflush}
use Rattle.pmt_laws.proofs.Histories.{act-unique, act-within, history-act, history-step, front-mono}
use Rattle.pmt_laws.proofs.BoxLemmas.{front-flush_now}
use Rattle.pmt_laws.proofs.KeepLemmas.{front-at_fence, needed-flush, raising-is-kept}
use Rattle.pmt_laws.proofs.NeededFlushes.{IsNeededFlush, kept-needed}
use Rattle.pmt_reasons.specs.declared.reason.Reason.{Reason}
use Rattle.pmt_reasons.specs.declared.reason.Reason.TheVariants.{Safe, Unfenced, Repeated, Overtaken, Empty, Useless}
use Rattle.pmt_reasons.specs.Reasons.{IsMarking, IsNextFence, IsOvertaken, IsFlushReason, IsClflushReason, HasFlushed, IsReason, OfFlush, OfClflush, OfFence, ReasonExists, OvertakerIsKept}
use Rattle.pmt_reasons.proofs.CauseLaws.{flush-dec}
use Rattle.pmt_reasons.proofs.ReasonLemmas.{fence-reasons, clflush-reason-safe, next-fence-unique}

-- a kept clflush raises the front of its line
clflush-raises : (T : Recording) (l n : ℕ) → IsAct T (suc n) (Clflushes l) → IsKept T (suc n) → front_at T l n < count_at T l (suc n)
clflush-raises T l n is (Stays a at stays) = let same = act-unique T (suc n) a (Clflushes l) at is in let e : always_stays a ≡ true = stays in let f = ap always_stays same in cc
clflush-raises T l n is (ByFence u) = let same = act-unique T (suc n) (Fences u.thread) (Clflushes l) u.is_fence is in cc
clflush-raises T l n is (ByFlush u) = let same = act-unique T (suc n) (Flushes u.thread u.line) (Clflushes l) u.is_flush is in cc
clflush-raises T l n is (ByClflush u) =
    let same = act-unique T (suc n) (Clflushes u.line) (Clflushes l) u.is_clflush is in
    let line : u.line ≡ l = cc in
    let raises = subst (λ k. front_at T k (suc n) ≢ front_at T k (suc n - 1)) line u.raises in
    let before : suc n - 1 ≡ n = omega arith in
    let moved = subst (λ k. front_at T l (suc n) ≢ front_at T l k) before raises in
    let new = history-act T n (Clflushes l) is in
    let front : front_at T l (suc n) ≡ count_at T l n = ap (front l) new ∙ front-flush_now l (history T n) in
    let counted : count_at T l (suc n) ≡ count_at T l n = ap (count l) new in
    let up = front-mono T l n (suc n) (omega arith) in
    omega (arith, moved, front, counted, up)

-- a kept fence raises the front of some line, by a flush since its thread's last fence
fence-flushed : (T : Recording) (t n : ℕ) → IsAct T (suc n) (Fences t) → IsKept T (suc n) → HasFlushed T t (suc n) × ((l : ℕ) × (front_at T l (suc n) ≢ front_at T l n))
fence-flushed T t n is (Stays a at stays) = let same = act-unique T (suc n) a (Fences t) at is in let e : always_stays a ≡ true = stays in let f = ap always_stays same in cc
fence-flushed T t n is (ByFlush u) = let same = act-unique T (suc n) (Flushes u.thread u.line) (Fences t) u.is_flush is in cc
fence-flushed T t n is (ByClflush u) = let same = act-unique T (suc n) (Clflushes u.line) (Fences t) u.is_clflush is in cc
fence-flushed T t n is (ByFence u) =
    let before : suc n - 1 ≡ n = omega arith in
    let moved = subst (λ k. front_at T u.line (suc n) ≢ front_at T u.line k) before u.raises in
    let new = ap (front u.line) (history-act T n (Fences t) is) in
    let raises : front_at T u.line n < mark t u.line (history T n) = omega (arith, moved, new) in
    let f = needed-flush T t u.line n is raises in (
      record {
        flush = f.0;
        line = u.line;
        is_flush = f.2.is_flush;
        before = omega (arith, f.2.by_now);
        since = λ k after early at. absurd (omega (arith, raises, f.2.stores, front-at_fence T t u.line f.0 k f.2.is_flush at after, front-mono T u.line k n (omega arith)));
      },
      (u.line, moved),
    )

-- a needed flush has no reason
flush-not_needed : (T : Recording) (t l i : ℕ) (r : Reason) → IsFlushReason T t l i r → IsNeededFlush T t l i → ⊥
flush-not_needed T t l i Safe why f = absurd (omega (arith, why, f.needed, f.later, front-mono T l (i - 1) f.before (omega (arith, f.later))))
flush-not_needed T t l i Unfenced why f = why.never (suc f.before) f.later f.is_fence
flush-not_needed T t l i (Repeated by) why f =
    let same = next-fence-unique T t i why.fence (suc f.before) why.next (record { is_fence = f.is_fence; later = f.later; none_before = f.next_fence }) in
    f.last_flush by why.after (omega (arith, why.before, same)) why.is_flush
flush-not_needed T t l i (Overtaken by) why f =
    let same = next-fence-unique T t i why.fence (suc f.before) why.next (record { is_fence = f.is_fence; later = f.later; none_before = f.next_fence }) in
    absurd (omega (arith, f.needed, why.reached, front-mono T l by f.before (omega (arith, why.before, same))))
flush-not_needed T t l i a why f = why

-- a kept event has no reason
reason-not_kept : (T : Recording) (i : ℕ) (r : Reason) → IsReason T i r → IsKept T i → ⊥
reason-not_kept T i r (OfFlush t l is why) kept = flush-not_needed T t l i r why (kept-needed T t l i kept is)
reason-not_kept T zero r (OfClflush l is why) kept = absurd (omega (arith, (act-within T zero (Clflushes l) is).0))
reason-not_kept T (suc n) r (OfClflush l is why) kept =
    let before : suc n - 1 ≡ n = omega arith in
    let safe = subst (IsClflushReason T l (suc n)) (clflush-reason-safe T l (suc n) r why) why in
    let raises = clflush-raises T l n is kept in
    absurd (omega (arith, raises, subst (λ k. count_at T l (suc n) ≤ front_at T l k) before safe))
reason-not_kept T zero r (OfFence t is why) kept = absurd (omega (arith, (act-within T zero (Fences t) is).0))
reason-not_kept T (suc n) r (OfFence t is why) kept = grind (arith, nat_tests, fence-flushed, fence-reasons)

-- the first number above i, up to n, of which P holds, or none
first-such : (P : ℕ → Type 0) → ((k : ℕ) → P k ⊎ (P k → ⊥)) → (i n : ℕ) →
    ((k : ℕ) → i < k → k ≤ n → P k → ⊥) ⊎ ((j : ℕ) × (i < j) × (j ≤ n) × P j × ((k : ℕ) → i < k → k < j → P k → ⊥))
first-such P dec i zero = inl (λ k after by_now. absurd (omega arith))
first-such P dec i (suc n) = go (first-such P dec i n) (dec (suc n)) (cases_lt i (suc n))
  where
    go : ((k : ℕ) → i < k → k ≤ n → P k → ⊥) ⊎ ((j : ℕ) × (i < j) × (j ≤ n) × P j × ((k : ℕ) → i < k → k < j → P k → ⊥)) → P (suc n) ⊎ (P (suc n) → ⊥) →
        (i < suc n) ⊎ (suc n ≤ i) → ((k : ℕ) → i < k → k ≤ suc n → P k → ⊥) ⊎ ((j : ℕ) × (i < j) × (j ≤ suc n) × P j × ((k : ℕ) → i < k → k < j → P k → ⊥))
    go (inr (j, after, by_now, holds, first)) next within = inr (j, after, omega arith, holds, first)
    go (inl none) (inl holds) (inl within) = inr (suc n, within, omega arith, holds, λ k after before. none k after (omega arith))
    go (inl none) (inl holds) (inr past) = inl (λ k after by_now. absurd (omega arith))
    go (inl none) (inr fails) within = inl (λ k after by_now x. elim (cases_lt k (suc n)) [
      | inl early ↦ none k after (omega arith) x
      | inr late ↦ let e : k ≡ suc n = omega arith in fails (subst P e x)
    ])

-- an event has an act, or there is none
act-there : (T : Recording) (n : ℕ) → ((a : Act) × IsAct T n a) ⊎ ((a : Act) → IsAct T n a → ⊥)
act-there T zero = inr (λ a is. absurd (omega (arith, (act-within T zero a is).0)))
act-there T (suc n) = elim (history-step T n) [
  | inl x ↦ inl x
  | inr x ↦ inr (λ a is. absurd (omega (arith, x.0, (act-within T (suc n) a is).1)))
]

-- an act is a fence by the thread, or not
is-fence : (t : ℕ) (a : Act) → (a ≡ Fences t) ⊎ (a ≡ Fences t → ⊥)
is-fence t (Fences u) = elim (cases_eq u t) [ inl same ↦ inl (ap Fences same) | inr apart ↦ inr (λ e. apart (cc)) ]
is-fence t a = inr (λ e. cc)

-- an event is a fence by the thread, or not
fence-dec : (T : Recording) (t n : ℕ) → IsAct T n (Fences t) ⊎ (IsAct T n (Fences t) → ⊥)
fence-dec T t n = elim (act-there T n) [
  | inl x ↦ elim (is-fence t x.0) [
    | inl same ↦ inl (subst (IsAct T n) same x.1)
    | inr apart ↦ inr (λ at. apart (act-unique T n x.0 (Fences t) x.1 at))
  ]
  | inr none ↦ inr (none (Fences t))
]

-- an event is a flush of the line by the thread, or not
flush-there : (T : Recording) (t l n : ℕ) → IsAct T n (Flushes t l) ⊎ (IsAct T n (Flushes t l) → ⊥)
flush-there T t l zero = inr (λ is. absurd (omega (arith, (act-within T zero (Flushes t l) is).0)))
flush-there T t l (suc n) = flush-dec T t l n

-- a flush leaves the front of its line as it was
front-at_flush : (T : Recording) (t l i : ℕ) → IsAct T i (Flushes t l) → front_at T l i ≡ front_at T l (i - 1)
front-at_flush T t l zero is = absurd (omega (arith, (act-within T zero (Flushes t l) is).0))
front-at_flush T t l (suc n) is = let before : suc n - 1 ≡ n = omega arith in ap (front l) (history-act T n (Flushes t l) is) ∙ sym (ap (front_at T l) before)

-- a flush that marks stores and is not needed by the next fence of its thread, though it is the last one before, is overtaken
overtaken : (T : Recording) (t l i j : ℕ) → IsAct T i (Flushes t l) → IsMarking T l i → IsNextFence T t i j → ((k : ℕ) → i < k → k < j → ¬ IsAct T k (Flushes t l)) →
    count_at T l i ≤ front_at T l (j - 1) → (r : Reason) × IsReason T i r
overtaken T t l i j is marks next last reached =
    go (first-such (λ k. count_at T l i ≤ front_at T l k) (λ k. elim (cases_lt (front_at T l k) (count_at T l i)) [ inl below ↦ inr (λ h. absurd (omega arith)) | inr above ↦ inl above ]) i (j - 1))
  where
    before : (by : ℕ) → i < by → ((k : ℕ) → i < k → k < by → count_at T l i ≤ front_at T l k → ⊥) → (i < by - 1) ⊎ (by - 1 ≤ i) → front_at T l (by - 1) < count_at T l i
    before by after first (inl later) = elim (cases_lt (front_at T l (by - 1)) (count_at T l i)) [ inl below ↦ below | inr above ↦ absurd (first (by - 1) later (omega arith) above) ]
    before by after first (inr now) = let e : i ≡ by - 1 = omega arith in subst (λ k. front_at T l k < count_at T l i) e (omega (arith, front-at_flush T t l i is, marks))

    go : ((k : ℕ) → i < k → k ≤ j - 1 → count_at T l i ≤ front_at T l k → ⊥) ⊎
        ((by : ℕ) × (i < by) × (by ≤ j - 1) × (count_at T l i ≤ front_at T l by) × ((k : ℕ) → i < k → k < by → count_at T l i ≤ front_at T l k → ⊥)) → (r : Reason) × IsReason T i r
    go (inl none) = elim (cases_lt i (j - 1)) [
      | inl later ↦ absurd (none (j - 1) later (omega arith) reached)
      | inr now ↦ absurd (omega (arith, marks, reached, front-at_flush T t l i is, front-mono T l (j - 1) i now))
    ]
    go (inr (by, after, by_then, holds, first)) = (
      Overtaken by,
      OfFlush t l is (record {
        marks = marks;
        fence = j;
        next = next;
        last = last;
        after = after;
        before = omega (arith, by_then, next.later);
        first = before by after first (cases_lt i (by - 1));
        reached = holds;
      }),
    )

-- a dropped flush that marks stores and whose thread fences later has a reason
fenced-reason : (T : Recording) (t l i j : ℕ) → IsAct T i (Flushes t l) → (IsKept T i → ⊥) → IsMarking T l i → IsNextFence T t i j → (r : Reason) × IsReason T i r
fenced-reason T t l i j is dropped marks next = go (first-such (λ k. IsAct T k (Flushes t l)) (flush-there T t l) i (j - 1))
  where
    go : ((k : ℕ) → i < k → k ≤ j - 1 → IsAct T k (Flushes t l) → ⊥) ⊎
        ((by : ℕ) × (i < by) × (by ≤ j - 1) × IsAct T by (Flushes t l) × ((k : ℕ) → i < k → k < by → IsAct T k (Flushes t l) → ⊥)) → (r : Reason) × IsReason T i r
    go (inl none) =
        let last : (k : ℕ) → i < k → k < j → ¬ IsAct T k (Flushes t l) = λ k after before. none k after (omega arith) in
        elim (cases_lt (front_at T l (j - 1)) (count_at T l i)) [
          | inl below ↦ absurd (dropped (ByFlush (record {
            thread = t;
            line = l;
            fence = j;
            is_flush = is;
            is_fence = next.is_fence;
            later = next.later;
            next_fence = next.none_before;
            last_flush = last;
            needed = below;
          })))
          | inr reached ↦ overtaken T t l i j is marks next last reached
        ]
    go (inr (by, after, by_then, flush, first)) = (
      Repeated by,
      OfFlush t l is (record {
        marks = marks;
        fence = j;
        next = next;
        is_flush = flush;
        after = after;
        before = omega (arith, by_then, next.later);
        first = first;
      }),
    )

-- a dropped flush has a reason
flush-reason : (T : Recording) (t l i : ℕ) → IsAct T i (Flushes t l) → (IsKept T i → ⊥) → (r : Reason) × IsReason T i r
flush-reason T t l i is dropped = go (cases_lt (front_at T l (i - 1)) (count_at T l i)) (first-such (λ k. IsAct T k (Fences t)) (fence-dec T t) i (length T.events))
  where
    go : (front_at T l (i - 1) < count_at T l i) ⊎ (count_at T l i ≤ front_at T l (i - 1)) → ((k : ℕ) → i < k → k ≤ length T.events → IsAct T k (Fences t) → ⊥) ⊎
        ((j : ℕ) × (i < j) × (j ≤ length T.events) × IsAct T j (Fences t) × ((k : ℕ) → i < k → k < j → IsAct T k (Fences t) → ⊥)) → (r : Reason) × IsReason T i r
    go (inr safe) fence = (Safe, OfFlush t l is safe)
    go (inl marks) (inl none) = (Unfenced, OfFlush t l is (record { marks = marks; never = λ k after at. none k after (act-within T k (Fences t) at).1 at }))
    go (inl marks) (inr (j, later, within, fence, first)) = fenced-reason T t l i j is dropped marks (record { is_fence = fence; later = later; none_before = first })

-- the thread has flushed since its last fence before a place, or not
FlushedOrNot : Recording → ℕ → ℕ → Type 0
FlushedOrNot T t j = HasFlushed T t j ⊎ (HasFlushed T t j → ⊥)

-- one more event that is neither a flush nor a fence by the thread
flushed-other : (T : Recording) (t n : ℕ) → ((l : ℕ) → ¬ IsAct T n (Flushes t l)) → ¬ IsAct T n (Fences t) → FlushedOrNot T t n → FlushedOrNot T t (suc n)
unfolding FlushedOrNot
flushed-other T t n no_flush no_fence (inl x) = inl (record {
  flush = x.flush;
  line = x.line;
  is_flush = x.is_flush;
  before = omega (arith, x.before);
  since = λ k after early at. elim (cases_lt k n) [
    | inl less ↦ x.since k after less at
    | inr equal ↦ let e : k ≡ n = omega arith in let P : ℕ → Type 0 = λ m. IsAct T m (Fences t) in no_fence (subst P e at)
  ];
})
flushed-other T t n no_flush no_fence (inr none) = inr (λ x. elim (cases_lt x.flush n) [
  | inl less ↦ none (record { flush = x.flush; line = x.line; is_flush = x.is_flush; before = less; since = λ k after early at. x.since k after (omega arith) at })
  | inr equal ↦ let e : x.flush ≡ n = omega (arith, x.before) in let P : ℕ → Type 0 = λ m. IsAct T m (Flushes t x.line) in no_flush x.line (subst P e x.is_flush)
])

-- one more event
flushed-act : (T : Recording) (t n : ℕ) (a : Act) → IsAct T n a → FlushedOrNot T t n → FlushedOrNot T t (suc n)
unfolding FlushedOrNot
flushed-act T t n (Flushes u k) is before = elim (cases_eq u t) [
  | inl same ↦ inl (record {
    flush = n;
    line = k;
    is_flush = subst (λ v. IsAct T n (Flushes v k)) same is;
    before = omega arith;
    since = λ m after early at. absurd (omega arith);
  })
  | inr apart ↦ flushed-other T t n (λ l at. let same = act-unique T n (Flushes u k) (Flushes t l) is at in apart (cc)) (λ at. let same = act-unique T n (Flushes u k) (Fences t) is at in cc) before
]
flushed-act T t n (Clflushes k) is before =
    flushed-other T t n (λ l at. let same = act-unique T n (Clflushes k) (Flushes t l) is at in cc) (λ at. let same = act-unique T n (Clflushes k) (Fences t) is at in cc) before
flushed-act T t n (Fences u) is before = elim (cases_eq u t) [
  | inl same ↦ inr (λ x. elim (cases_lt x.flush n) [
    | inl less ↦ x.since n less (omega arith) (subst (λ v. IsAct T n (Fences v)) same is)
    | inr equal ↦
        let e : x.flush ≡ n = omega (arith, x.before) in
        let P : ℕ → Type 0 = λ m. IsAct T m (Flushes t x.line) in
        let both = act-unique T n (Fences u) (Flushes t x.line) is (subst P e x.is_flush) in
        cc
  ])
  | inr apart ↦ flushed-other T t n (λ l at. let same = act-unique T n (Fences u) (Flushes t l) is at in cc) (λ at. let same = act-unique T n (Fences u) (Fences t) is at in apart (cc)) before
]
flushed-act T t n a is before =
    flushed-other T t n (λ k at. let same = act-unique T n a (Flushes t k) is at in cc) (λ at. let same = act-unique T n a (Fences t) is at in cc) before

-- at each place it is known
has_flushed-dec : (T : Recording) (t j : ℕ) → FlushedOrNot T t j
unfolding FlushedOrNot
has_flushed-dec T t zero = inr (λ x. absurd (omega (arith, x.before)))
has_flushed-dec T t (suc n) = elim (act-there T n) [
  | inl x ↦ flushed-act T t n x.0 x.1 (has_flushed-dec T t n)
  | inr none ↦ flushed-other T t n (λ l. none (Flushes t l)) (none (Fences t)) (has_flushed-dec T t n)
]

-- a dropped fence raises no front
fence-raises_none : (T : Recording) (t j : ℕ) → IsAct T j (Fences t) → (IsKept T j → ⊥) → (l : ℕ) → front_at T l j ≡ front_at T l (j - 1)
fence-raises_none T t j is dropped l = elim (cases_eq (front_at T l j) (front_at T l (j - 1))) [
  | inl same ↦ same
  | inr raises ↦ absurd (dropped (ByFence (record { thread = t; line = l; is_fence = is; raises = raises })))
]

-- a dropped clflush finds all stores safe
clflush-safe : (T : Recording) (l i : ℕ) → IsAct T i (Clflushes l) → (IsKept T i → ⊥) → count_at T l i ≤ front_at T l (i - 1)
clflush-safe T l zero is dropped = absurd (omega (arith, (act-within T zero (Clflushes l) is).0))
clflush-safe T l (suc n) is dropped = elim (cases_eq (front_at T l (suc n)) (front_at T l (suc n - 1))) [
  | inl same ↦
      let new = history-act T n (Clflushes l) is in
      let front : front_at T l (suc n) ≡ count_at T l n = ap (front l) new ∙ front-flush_now l (history T n) in
      let counted : count_at T l (suc n) ≡ count_at T l n = ap (count l) new in
      omega (arith, same, front, counted)
  | inr raises ↦ absurd (dropped (ByClflush (record { line = l; is_clflush = is; raises = raises })))
]

-- a dropped event has a reason
dropped-reason : (T : Recording) (i : ℕ) (a : Act) → IsAct T i a → (IsKept T i → ⊥) → (r : Reason) × IsReason T i r
unfolding FlushedOrNot
dropped-reason T i (Flushes t l) is dropped = flush-reason T t l i is dropped
dropped-reason T i (Clflushes l) is dropped = (Safe, OfClflush l is (clflush-safe T l i is dropped))
dropped-reason T i (Fences t) is dropped = elim (has_flushed-dec T t i) [
  | inl flushed ↦ (Useless, OfFence t is (record { flushed = flushed; raises_none = fence-raises_none T t i is dropped }))
  | inr none ↦ (Empty, OfFence t is none)
]
dropped-reason T i a is dropped = absurd (dropped (Stays a is refl))

-- an event is dropped exactly where a reason holds of it
pub reason_exists : ReasonExists
reason_exists T i a is = (dropped-reason T i a is, λ (r, why). reason-not_kept T i r why)

-- what raises a front to a flush's stores is kept
overtaker-kept : (T : Recording) (t l i by : ℕ) → IsOvertaken T t l i by → IsKept T by
overtaker-kept T t l i zero x = absurd (omega (arith, x.after))
overtaker-kept T t l i (suc n) x =
    let before : suc n - 1 ≡ n = omega arith in
    let below : front_at T l n < count_at T l i = subst (λ k. front_at T l k < count_at T l i) before x.first in
    elim (act-there T (suc n)) [
      | inl y ↦ raising-is-kept T l n y.0 y.1 (λ same. absurd (omega (arith, x.reached)))
      | inr none ↦ elim (history-step T n) [
        | inl y ↦ absurd (none y.0 y.1)
        | inr y ↦ let same : front_at T l (suc n) ≡ front_at T l n = ap (front l) y.1 in absurd (omega (arith, x.reached))
      ]
    ]

-- what overtakes a flush is kept
pub overtaker_is_kept : OvertakerIsKept
overtaker_is_kept T i by (OfFlush t l is why) = overtaker-kept T t l i by why
overtaker_is_kept T i by (OfClflush l is why) = absurd why
overtaker_is_kept T i by (OfFence t is why) = absurd why
