-- The last flush of a line by a thread.
use Rattle.std.proofs.Common.{◌≡◌, ℕ, zero, suc, ◌<◌, ◌≤◌, ◌⊎◌, List, ◌∷◌, length, refl, sym, ◌∙◌, ap, subst, inl, inr, ⊎_elim, arith}
use Rattle.std.proofs.lemmas.Bool.{cases_eq, cases_lt, cases_Bool, eqb-true, and_parts, cond-false}
use Rattle.std.proofs.lemmas.Bool.Decides.{nat_tests}
use Rattle.pmt_laws.specs.Prelude.{Act, Flushes, count, Recording, IsAct, history, count_at, mark}
use Rattle.pmt_laws.proofs.Histories.{act-within, act-unique, history-act, history-step}
use Rattle.pmt_laws.proofs.OutstandingFlushes.{mark-flush}

-- The last flush of line l by thread t among the first n events.
pub record IsLastFlush (T : Recording) (t l n i : ℕ) : Type 0 where
  pub is_flush : IsAct T i (Flushes t l)
  pub by_now : i ≤ n
  pub none_later : (k : ℕ) → i < k → k ≤ n → ¬ IsAct T k (Flushes t l)
  pub stores : count_at T l i ≡ mark t l (history T n)

-- An act is a flush of the line by the thread, or not.
flush-dec : (t l : ℕ) (a : Act) → (a ≡ Flushes t l) ⊎ (a ≡ Flushes t l → ⊥)
flush-dec t l a = grind (arith, nat_tests, cases_eq)

-- Any other act leaves the mark.
mark-other : (t l : ℕ) (a : Act) (h : List Act) → (a ≡ Flushes t l → ⊥) → mark t l (a ∷ h) ≡ mark t l h
mark-other t l a h apart = grind (arith, nat_tests, cases_Bool, and_parts, eqb-true, cond-false)

-- The mark counts the stores before the last flush, if there is one.
pub last-flush : (T : Recording) (t l n : ℕ) → (mark t l (history T n) ≡ 0) ⊎ ((i : ℕ) × IsLastFlush T t l n i)
last-flush T t l zero = inl refl
last-flush T t l (suc n) = go (history-step T n) (last-flush T t l n)
  where
    later : (mark t l (history T (suc n)) ≡ mark t l (history T n)) → (IsAct T (suc n) (Flushes t l) → ⊥) →
        (mark t l (history T n) ≡ 0) ⊎ ((i : ℕ) × IsLastFlush T t l n i) → (mark t l (history T (suc n)) ≡ 0) ⊎ ((i : ℕ) × IsLastFlush T t l (suc n) i)
    later same no_flush (inl e) = inl (same ∙ e)
    later same no_flush (inr (i, last)) = inr (
      i,
      record {
        is_flush = last.is_flush;
        by_now = let before : i ≤ n = last.by_now in omega arith;
        none_later = λ k after within is. ⊎_elim
            (λ (early : k < suc n). last.none_later k after (omega arith) is)
            (λ (late : suc n ≤ k). let e : k ≡ suc n = omega arith in let P : ℕ → Type 0 = λ j. IsAct T j (Flushes t l) in no_flush (subst P e is))
            (cases_lt k (suc n));
        stores = last.stores ∙ sym same;
      },
    )

    by_act : (a : Act) → IsAct T (suc n) a → (a ≡ Flushes t l) ⊎ (a ≡ Flushes t l → ⊥) → (mark t l (history T n) ≡ 0) ⊎ ((i : ℕ) × IsLastFlush T t l n i) →
        (mark t l (history T (suc n)) ≡ 0) ⊎ ((i : ℕ) × IsLastFlush T t l (suc n) i)
    by_act a is (inl e) before =
        let flush : IsAct T (suc n) (Flushes t l) = (is.0, is.1, is.2 ∙ e) in
        let grown = history-act T n (Flushes t l) flush in
        inr (
          suc n,
          record {
            is_flush = flush;
            by_now = omega arith;
            none_later = λ k after within at. absurd (omega arith);
            stores = ap (count l) grown ∙ sym (ap (mark t l) grown ∙ mark-flush t l (history T n));
          },
        )
    by_act a is (inr apart) before =
        later (ap (mark t l) (history-act T n a is) ∙ mark-other t l a (history T n) apart) (λ flush. apart (act-unique T (suc n) a (Flushes t l) is flush)) before

    go : ((a : Act) × IsAct T (suc n) a) ⊎ ((length T.events ≤ n) × (history T (suc n) ≡ history T n)) → (mark t l (history T n) ≡ 0) ⊎ ((i : ℕ) × IsLastFlush T t l n i) →
        (mark t l (history T (suc n)) ≡ 0) ⊎ ((i : ℕ) × IsLastFlush T t l (suc n) i)
    go (inl x) before = by_act x.0 x.1 (flush-dec t l x.0) before
    go (inr x) before =
        later (ap (mark t l) x.1) (λ flush. let past : length T.events ≤ n = x.0 in let le : suc n ≤ length T.events = (act-within T (suc n) (Flushes t l) flush).1 in absurd (omega arith)) before
