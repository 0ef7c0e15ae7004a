-- What is known of the first events of a trace stays known where more events follow.
use Rattle.std.proofs.Common.{◌≡◌, ℕ, suc, ◌+◌, ◌-◌, ◌*◌, ◌<◌, ◌≤◌, inl, inr, Bool, false, List, length, get_or, map, Some, refl, sym, ap, subst, ◌∙◌, true≢false, arith}
use Rattle.std.specs.Prelude.{◌↔◌, IsTrue, slice_get, slice_index, unwrap_or}
use Rattle.std.proofs.lemmas.Bool.{cases_lt}
use Rattle.std.proofs.lemmas.List.{get_or-append-add, length-append}
use Rattle.std.proofs.lemmas.Option.{slice_get-get_or}
use Rattle.pmt_laws.specs.Prelude.{Event, Finding, Overwritten, NeverPersisted, RedundantFlush, FenceWithoutFlush, Verdict, Layout, Written, Stores, Flushes, Clflushes, Fences, Ends, count, empty, with_events, Recording, IsTrace, IsAct, history, lines_of, PersistPasses, OrderedPasses, IsFlushOf, ByFlush, ByClflush, IsSafe, IsCovered, last_store_number, IsFinding, reported_at, IsVerdictOf, OfPersist, OfOrdered, IsKept, Has}
use Rattle.pmt_laws.specs.Passing.{open_flushes, IsOpenFlush}
use Rattle.pmt_laws.proofs.DecidedLemmas.{IsSameTo, act-more, act-less, event-more, history-more, decided_stays, open-or_decided, open_is_dropped}
use Rattle.pmt_laws.proofs.PassLemmas.{are_open}
use Rattle.pmt_safety.specs.Safety.{last_line_store, safe_store, safe_store_at, IsSafeFrom}
use Rattle.pmt_safety.proofs.SafetyLemmas.{safe_store_is_last}
use Rattle.pmt_rows.specs.Known.{AreLinkedAt, IsKnownWith}
use Rattle.pmt_rows.specs.Waiting.{AreWaiting}
use Rattle.pmt_sweep.specs.declared.known.Known.{Known}
use Rattle.pmt_sweep.specs.Known.{IsKnownAmong, IsKnownOf, AreWordsOf, word_address, AreFlushedOf}
use Rattle.pmt_tables.specs.Lasts.{IsLeastAbove}
use Rattle.pmt_sweep.specs.declared.oldest.OldestStore.{OldestStore}
use Rattle.pmt_sweep.specs.Judged.{AreOldestAmong, AreOldestOf, none_found}
use Rattle.pmt_sweep.specs.Found.{is_known_late, AreKnownTo, AreVerdictsTo}
use Rattle.pmt_sweep.specs.declared.sweeping.Sweeper.{Sweeper}
use Rattle.pmt_sweep.specs.Passing.{number_in, IsOpenAt, AreFlagsTo, IsPassOf, HasSwept}

-- ---- Two traces with the same events up to place n

module _ (n : ℕ) (T U : Recording) (same : IsSameTo n T U) where
  safe-same : (l m j : ℕ) → m ≤ n → j ≤ n → IsSafe T l m j → IsSafe U l m j
  safe-same l m j m_within j_within safe s ends =
      subst (λ h. count l h ≤ s.persisted l) (sym (same.histories j j_within)) (safe s (subst (λ h. Ends h s) (same.histories m m_within) ends))

  covered-same : (t l j i : ℕ) → i ≤ n → IsCovered T t l j i → IsCovered U t l j i
  covered-same t l j i within c = record {
    flush = c.flush;
    is_flush = same.acts c.flush (Flushes t l) (omega (arith, c.before, within)) c.is_flush;
    after = c.after;
    before = c.before;
    unfenced = λ k after before is. c.unfenced k after before (same.back k (Fences t) (omega (arith, before, within)) is);
  }

  flush_of-same : (l k : ℕ) → k ≤ n → IsFlushOf U l k → IsFlushOf T l k
  flush_of-same l k within (ByFlush t is) = ByFlush t (same.back k (Flushes t l) within is)
  flush_of-same l k within (ByClflush is) = ByClflush (same.back k (Clflushes l) within is)

  finding-same : (f : Finding) → IsFinding T f → is_known_late f ≡ false → reported_at f ≤ n → IsFinding U f
  finding-same (Overwritten j i) o early within = record {
    line = o.line;
    earlier = o.earlier;
    later = o.later;
    byte = o.byte;
    is_earlier = same.acts j (Stores o.line o.earlier) (omega (arith, o.order, within)) o.is_earlier;
    is_later = same.acts i (Stores o.line o.later) within o.is_later;
    order = o.order;
    writes_earlier = o.writes_earlier;
    writes_later = o.writes_later;
    last = λ k l w after before is. o.last k l w after before (same.back k (Stores l w) (omega (arith, before, within)) is);
    unflushed = λ k after before flush. o.unflushed k after before (flush_of-same o.line k (omega (arith, before, within)) flush);
  }
  finding-same (NeverPersisted i flushed) o early within = absurd (true≢false early)
  finding-same (RedundantFlush i) (inl x) early within = inl (
    x.0,
    x.1,
    record {
      is_flush = same.acts i (Flushes x.0 x.1) within x.2.is_flush;
      nothing_new = λ j w before is. elim (x.2.nothing_new j w before (same.back j (Stores x.1 w) (omega (arith, before, within)) is)) [
        | inl safe ↦ inl (safe-same x.1 (i - 1) j (omega (arith, within)) (omega (arith, before, within)) safe)
        | inr covered ↦ inr (covered-same x.0 x.1 j i within covered)
      ];
    },
  )
  finding-same (RedundantFlush i) (inr x) early within = inr (
    x.0,
    record {
      is_clflush = same.acts i (Clflushes x.0) within x.1.is_clflush;
      nothing_new = λ j w before is.
          safe-same x.0 (i - 1) j (omega (arith, within)) (omega (arith, before, within)) (x.1.nothing_new j w before (same.back j (Stores x.0 w) (omega (arith, before, within)) is));
    },
  )
  finding-same (FenceWithoutFlush i) o early within = record {
    thread = o.thread;
    is_fence = same.acts i (Fences o.thread) within o.is_fence;
    nothing = λ j l before is.
        let k = o.nothing j l before (same.back j (Flushes o.thread l) (omega (arith, before, within)) is) in
        let after = k.2 in
        (k.0, k.1, k.2, same.acts k.0 (Fences o.thread) (omega (arith, after, within)) k.3);
  }

-- ---- A trace and the same trace with more events

module _ (S : Recording) (more : List Event) where
  abbrev grown : Recording
  grown = with_events S more

  abbrev size : ℕ
  size = length S.events

  here : history S size ≡ history grown size
  here = sym (history-more S more size (omega arith))

  there : IsSameTo size S grown
  there = record { acts = λ i a h is. act-more S more i a is; back = λ i a h is. act-less S more i a h is; histories = λ i h. history-more S more i h }

  back : IsSameTo size grown S
  back = record { acts = λ i a h is. act-less S more i a h is; back = λ i a h is. act-more S more i a is; histories = λ i h. sym (history-more S more i h) }

  -- what was found
  found-more : (found : List Finding) → AreKnownTo S size found → AreKnownTo grown size found
  found-more found known = record {
    ordered = known.ordered;
    just = λ f. (
      (λ has. let x = (known.just f).0 has in (finding-same size S grown there f x.0 x.1 x.2, x.1, x.2)),
      (λ x. (known.just f).1 (finding-same size grown S back f x.0 x.1 x.2, x.1, x.2)),
    );
  }

  -- the entries of stores
  safe_from-more : (l j p : ℕ) (w : Written) → j ≤ size → IsAct S j (Stores l w) → j ≤ safe_store_at S l size → IsSafeFrom S l j p → IsSafeFrom grown l j p
  safe_from-more l j p w come is safe from = record {
    safe = safe-same size S grown there l p j within come from.safe;
    first = λ m before is_safe. from.first m before (safe-same size grown S back l m j (omega (arith, before, within)) come is_safe);
  }
    where
      within : p ≤ size
      within = elim (cases_lt size p) [ inl past ↦ absurd (from.first size past ((safe_store_is_last.up_to S l size j w is).1 safe)) | inr by_now ↦ by_now ]

  entries-more : (entries : List ℕ) → AreLinkedAt S size entries → AreLinkedAt grown size entries
  entries-more entries are = record {
    many = are.many;
    come = λ l. subst (λ h. safe_store l h ≤ size) here (are.come l);
    passed = λ l j w come is safe.
        let before = act-less S more j (Stores l w) come is in
        let was = subst (λ h. j ≤ safe_store l h) (sym here) safe in
        safe_from-more l j (slice_index entries j) w come before was (are.passed l j w come before was);
    pending = λ l i w come is pending.
        are.pending l i w come (act-less S more (suc i) (Stores l w) (omega (arith, come)) is) (subst (λ h. safe_store l h < suc i) (sym here) pending)
        ∙ ap (last_line_store l) (sym (history-more S more i (omega (arith, come))));
    others = λ i a come is other. are.others i a come (act-less S more (suc i) a (omega (arith, come)) is) other;
  }

  words-more : (many : ℕ) (lines : List ℕ) (words : List (List ℕ)) → AreWordsOf S size many lines words → AreWordsOf grown size many lines words
  words-more many lines words are = record {
    in_all = are.in_all;
    each = λ l slot i at small k eight. are.each l slot i at small k eight ∙ ap (λ h. unwrap_or (last_store_number (word_address S.format.line_size l i + k) h) 0) here;
  }

  -- the lines
  lines-more : (k : Known) → IsTrace grown → IsKnownOf S size k → IsKnownOf grown size k
  lines-more k trace known = subst (λ h. IsKnownAmong grown size (lines_of h) k) here (record {
    trace = trace;
    format = known.format;
    many = known.many;
    rows = subst (λ h. IsKnownWith (lines_of (history S size)) h (λ l. safe_store l h) k.rows) here known.rows;
    words = words-more k.words_of_line (lines_of (history S size)) k.words known.words;
    entries = entries-more k.links known.entries;
    flushed = subst (λ h. AreFlushedOf (lines_of (history S size)) h k.flushed.first.items k.flushed.others.lines.items) here known.flushed;
    waiting = subst (λ h. AreWaiting (lines_of (history S size)) h k.waiting) here known.waiting;
  })

  -- what was found of lines
  oldest-more : (found : List OldestStore) → AreOldestOf S size found → AreOldestOf grown size found
  oldest-more found are = subst (λ h. AreOldestAmong grown size (lines_of h) found) here (record {
    few = are.few;
    each = λ l p at.
        let it = are.each l p at in
        let x = get_or found p none_found in
        record { by_now = it.by_now; oldest = subst (λ h. IsLeastAbove 0 0 S.format.line_size (λ o. unwrap_or (last_store_number (l * S.format.line_size + o) h) 0) x.oldest) (sym (history-more S more x.last_store it.by_now)) it.oldest };
  })

  -- what is kept
  open-more : (k : ℕ) → IsOpenAt S size k → IsOpenAt grown size k
  open-more k o = (o.0, subst (λ h. Has (map number_in (open_flushes o.0 h)) k) here o.1)

  open-less : (k : ℕ) → IsOpenAt grown size k → IsOpenAt S size k
  open-less k o = (o.0, subst (λ h. Has (map number_in (open_flushes o.0 h)) k) (sym here) o.1)

  open-listed : (k : ℕ) → k ≤ size → IsOpenFlush S k → IsOpenAt S size k
  open-listed k within o = (o.thread, (are_open S o.thread size).all k o.line o.is_flush within (λ j after before. o.unfenced j after))

  kept-more : (flags : List Bool) → AreFlagsTo S size flags → AreFlagsTo grown size flags
  kept-more flags are = record {
    all = are.all;
    just = λ k. (
      (λ e. let x = (are.just k).0 e in (x.0, stays k x.0 x.1, λ o. x.2 (open-less k o))),
      (λ x. (are.just k).1 (x.0, stayed k x.0 (λ o. x.2 (open-more k o)) x.1, λ o. x.2 (open-more k o))),
    );
  }
    where
      stays : (k : ℕ) → k ≤ size → IsKept S k → IsKept grown k
      stays k within kept = elim (open-or_decided S k within) [
        | inl o ↦ absurd (open_is_dropped S k o kept)
        | inr d ↦ (decided_stays S more k d).1.0 kept
      ]

      stayed : (k : ℕ) → k ≤ size → ¬ IsOpenAt S size k → IsKept grown k → IsKept S k
      stayed k within shut kept = elim (open-or_decided S k within) [
        | inl o ↦ absurd (shut (open-listed k within o))
        | inr d ↦ (decided_stays S more k d).1.1 kept
      ]

  -- the verdicts
  verdict-more : (v : Verdict) → v.event ≤ size → IsVerdictOf S v → IsVerdictOf grown v
  verdict-more v h (OfPersist e at r op kind pass) =
      OfPersist e (event-more S more v.event h ∙ at) r op kind (subst (λ acts. IsTrue v.pass ↔ PersistPasses acts r) (sym (history-more S more v.event h)) pass)
  verdict-more v h (OfOrdered e at r q op kind pass) =
      OfOrdered e (event-more S more v.event h ∙ at) r q op kind (subst (λ acts. IsTrue v.pass ↔ OrderedPasses acts r q) (sym (history-more S more v.event h)) pass)

  verdict-less : (v : Verdict) → v.event ≤ size → IsVerdictOf grown v → IsVerdictOf S v
  verdict-less v h (OfPersist e at r op kind pass) =
      OfPersist e (sym (event-more S more v.event h) ∙ at) r op kind (subst (λ acts. IsTrue v.pass ↔ PersistPasses acts r) (history-more S more v.event h) pass)
  verdict-less v h (OfOrdered e at r q op kind pass) =
      OfOrdered e (sym (event-more S more v.event h) ∙ at) r q op kind (subst (λ acts. IsTrue v.pass ↔ OrderedPasses acts r q) (history-more S more v.event h) pass)

  verdicts-more : (vs : List Verdict) → AreVerdictsTo S size vs → AreVerdictsTo grown size vs
  verdicts-more vs are = record {
    ordered = are.ordered;
    just = λ v. (
      (λ has. let x = (are.just v).0 has in (verdict-more v x.1 x.0, x.1)),
      (λ x. (are.just v).1 (verdict-less v x.1 x.0, x.1)),
    );
  }

  -- a sweep
  pub pass-more : (s : Sweeper) → IsTrace grown → HasSwept S s → IsPassOf grown size s
  pass-more s trace swept = record {
    format = swept.format;
    known = lines-more s.known trace swept.known;
    oldest = oldest-more s.oldest.found.items swept.oldest;
    found = found-more s.found.items swept.found;
    over = swept.over;
    kept = kept-more s.kept.items swept.kept;
    verdicts = verdicts-more s.verdicts.items swept.verdicts;
  }

  -- the events that follow
  pub event-next : (i : ℕ) (e : Event) → i < length more → e ≡ get_or more i e → slice_get grown.events (size + i) ≡ Some e
  event-next i e within is =
      slice_get-get_or grown.events (size + i) e (omega (arith, within, length-append S.events more)) ∙ ap (λ (x : Event). Some x) (get_or-append-add S.events more i e ∙ sym is)

-- all events have come
pub pass-whole : (S : Recording) (more : List Event) (n : ℕ) (s : Sweeper) → n ≡ length S.events + length more → IsPassOf (with_events S more) n s → HasSwept (with_events S more) s
pass-whole S more n s all pass = subst (λ m. IsPassOf (with_events S more) m s) (omega (arith, all, length-append S.events more)) pass

-- all events at once
pub swept-whole : (T : Recording) (f : Layout) (es : List Event) (s : Sweeper) → f ≡ T.format → es ≡ T.events → IsTrace T → (IsTrace (with_events (empty f) es) → HasSwept (with_events (empty f) es) s) → HasSwept T s
swept-whole T f es s same_f same_es trace swept =
    let whole : with_events (empty f) es ≡ T = rw (same_f, same_es) refl in
    subst (λ (U : Recording). HasSwept U s) whole (swept (subst IsTrace (sym whole) trace))
