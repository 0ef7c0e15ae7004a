-- The counts of events, one after another.
use Rattle.pmt_fates.proofs.Prelude.{◌≡◌, ◌≢◌, ℕ, ◌*◌, ◌<◌, ◌≤◌, ◌⊎◌, inl, inr, Bool, true, false, ◌==◌, cond, List, [], ◌∷◌, ◌++◌, length, set, refl, sym, ap, ◌∙◌, arith, cases_eq, eq-eqb, ne_eqb, append-nil, get_or-set_same, get_or-set_other, length_push, filter-append, count_by-le-length, sum_by_push, Event, event_limit, sum_by, Counts, AreFew, by_thread, counts_of, is_store, is_clwb, is_clflushopt, is_clflush, is_sfence, is_mfence, is_persist, is_ordered, stored, with_op, counts_in}

-- one more event
pub counts-push : (es : List Event) (e : Event) → counts_of (es ++ e ∷ []) ≡ with_op e.op (counts_of es)
counts-push es e =
    rw (
      length_push es e,
      sum_by_push (λ (x : Event). cond (is_store x.op) 1 0) es e,
      sum_by_push (λ (x : Event). cond (is_clwb x.op) 1 0) es e,
      sum_by_push (λ (x : Event). cond (is_clflushopt x.op) 1 0) es e,
      sum_by_push (λ (x : Event). cond (is_clflush x.op) 1 0) es e,
      sum_by_push (λ (x : Event). cond (is_sfence x.op) 1 0) es e,
      sum_by_push (λ (x : Event). cond (is_mfence x.op) 1 0) es e,
      sum_by_push (λ (x : Event). cond (is_persist x.op) 1 0) es e,
      sum_by_push (λ (x : Event). cond (is_ordered x.op) 1 0) es e,
      sum_by_push (λ (x : Event). stored x.op) es e,
    ) refl

-- one more event, of the thread or of another one
pub thread-push : (t : ℕ) (es : List Event) (e : Event) →
    counts_of (by_thread t (es ++ e ∷ [])) ≡ cond (e.thread == t) (with_op e.op (counts_of (by_thread t es))) (counts_of (by_thread t es))
thread-push t es e = ap counts_of (filter-append (λ (x : Event). x.thread == t) es (e ∷ [])) ∙ go (e.thread == t)
  where
    go : (b : Bool) → counts_of (by_thread t es ++ cond b (e ∷ []) []) ≡ cond b (with_op e.op (counts_of (by_thread t es))) (counts_of (by_thread t es))
    go true = counts-push (by_thread t es) e
    go false = ap counts_of (append-nil (by_thread t es))

pub threads-next : (es : List Event) (e : Event) (threads : List Counts) → length threads ≡ 256 → ((t : ℕ) → t < 256 → counts_in threads t ≡ counts_of (by_thread t es)) → (t : ℕ) → t < 256 →
    counts_in (set threads e.thread (with_op e.op (counts_in threads e.thread))) t ≡ counts_of (by_thread t (es ++ e ∷ []))
threads-next es e threads size each t below = go (cases_eq t e.thread) ∙ sym (thread-push t es e)
  where
    new : Counts
    new = with_op e.op (counts_in threads e.thread)

    go : (t ≡ e.thread) ⊎ (t ≢ e.thread) → counts_in (set threads e.thread new) t ≡ cond (e.thread == t) (with_op e.op (counts_of (by_thread t es))) (counts_of (by_thread t es))
    go (inl same) =
        ap (λ n. counts_in (set threads n (with_op e.op (counts_in threads n))) t) (sym same)
        ∙ get_or-set_same threads t (with_op e.op (counts_in threads t)) (counts_of []) (omega (arith, size, below))
        ∙ ap (with_op e.op) (each t below)
        ∙ sym (ap (λ b. cond b (with_op e.op (counts_of (by_thread t es))) (counts_of (by_thread t es))) (eq-eqb e.thread t (sym same)))
    go (inr apart) =
        get_or-set_other threads e.thread t new (counts_of []) apart
        ∙ each t below
        ∙ sym (ap (λ b. cond b (with_op e.op (counts_of (by_thread t es))) (counts_of (by_thread t es))) (ne_eqb e.thread t (λ same. apart (sym same))))

-- counts of few events are small
pub few : (es : List Event) → length es ≤ event_limit → sum_by (λ (e : Event). stored e.op) es ≤ 8 * event_limit → AreFew (counts_of es)
few es short bytes = record {
  events = short;
  stores = omega (arith, count_by-le-length (λ (e : Event). is_store e.op) es);
  clwbs = omega (arith, count_by-le-length (λ (e : Event). is_clwb e.op) es);
  clflushopts = omega (arith, count_by-le-length (λ (e : Event). is_clflushopt e.op) es);
  clflushes = omega (arith, count_by-le-length (λ (e : Event). is_clflush e.op) es);
  sfences = omega (arith, count_by-le-length (λ (e : Event). is_sfence e.op) es);
  mfences = omega (arith, count_by-le-length (λ (e : Event). is_mfence e.op) es);
  persists = omega (arith, count_by-le-length (λ (e : Event). is_persist e.op) es);
  orders = omega (arith, count_by-le-length (λ (e : Event). is_ordered e.op) es);
  bytes = bytes;
}
