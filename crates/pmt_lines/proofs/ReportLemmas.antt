-- What is reported at a step is what is found of the line there.
use Rattle.std.proofs.Common.{◌≡◌, ℕ, suc, ◌-◌, ◌≤◌, inl, inr, Bool, true, List, [], refl, sym, ap, subst, ◌∙◌, arith}
use Rattle.std.specs.Prelude.{◌↔◌, nat_le, max, unwrap_or}
use Rattle.std.proofs.lemmas.Bool.{leb-true}
use Rattle.pmt_laws.specs.Prelude.{Finding, Overwritten, NeverPersisted, RedundantFlush, FenceWithoutFlush, Written, Stores, Flushes, Clflushes, Fences, count, Recording, IsAct, history, count_at, front_at, open_mark, IsRedundantFlush, IsRedundantClflush, reported_at, InReportOrder, HasFinding}
use Rattle.pmt_laws.proofs.Histories.{act-unique, history-act}
use Rattle.pmt_laws.proofs.RedundantLemmas.{redundant_flush_by_fronts, redundant_clflush_by_fronts}
use Rattle.pmt_marks.specs.Lines.{Line, Follows, mark_in}
use Rattle.pmt_lines.specs.Jobs.{IsLineFinding, found_if, is_flush_covered}
use Rattle.pmt_lines.proofs.FindingLists.{has-if, if-has, if-ordered}

-- The findings of line l that are reported at event i, in report order, and no others.
pub record AreFoundAt (T : Recording) (l i : ℕ) (found : List Finding) : Type 0 where
  pub ordered : InReportOrder found
  pub just : (f : Finding) → HasFinding found f ↔ (IsLineFinding T l f × (reported_at f ≡ i))

-- what the acts of an event's findings are
pub data HasAct (T : Recording) (l i : ℕ) : Type 0 where
  AStore : (w : Written) → IsAct T i (Stores l w) → HasAct T l i
  AFlush : (t : ℕ) → IsAct T i (Flushes t l) → HasAct T l i
  AClflush : IsAct T i (Clflushes l) → HasAct T l i

-- a finding of the line is at a store, a flush or a clflush of it
pub finding-act : (T : Recording) (l : ℕ) (f : Finding) → IsLineFinding T l f → HasAct T l (reported_at f)
finding-act T l (Overwritten j i) h = AStore h.0.later (subst (λ k. IsAct T i (Stores k h.0.later)) h.1 h.0.is_later)
finding-act T l (NeverPersisted i flushed) h = AStore h.0.what h.0.is_store
finding-act T l (RedundantFlush i) (inl h) = AFlush h.0 h.1.is_flush
finding-act T l (RedundantFlush i) (inr h) = AClflush h.is_clflush
finding-act T l (FenceWithoutFlush i) h = absurd h

-- nothing of the line is found at a fence
pub found-fence : (T : Recording) (l i t : ℕ) → IsAct T i (Fences t) → AreFoundAt T l i []
found-fence T l i t is = record { ordered = tt; just = λ f. (λ none. absurd none, λ h. go (subst (HasAct T l) h.1 (finding-act T l f h.0))) }
  where
    go : HasAct T l i → ⊥
    go (AStore w store) = let e = act-unique T i (Fences t) (Stores l w) is store in cc
    go (AFlush u flush) = let e = act-unique T i (Fences t) (Flushes u l) is flush in cc
    go (AClflush flush) = let e = act-unique T i (Fences t) (Clflushes l) is flush in cc

-- what is found at a flush or a clflush is that it is redundant
found-flush : (T : Recording) (l i : ℕ) (b : Bool) → ((w : Written) → ¬ IsAct T i (Stores l w)) → (b ≡ true → IsLineFinding T l (RedundantFlush i)) → (IsLineFinding T l (RedundantFlush i) → b ≡ true) → AreFoundAt T l i (found_if b (RedundantFlush i))
found-flush T l i b no_store to from = record { ordered = if-ordered b (RedundantFlush i); just = λ f. (there f, back f) }
  where
    there : (f : Finding) → HasFinding (found_if b (RedundantFlush i)) f → IsLineFinding T l f × (reported_at f ≡ i)
    there f has =
        let x = has-if b (RedundantFlush i) f has in
        subst (λ g. IsLineFinding T l g × (reported_at g ≡ i)) x.1 (to x.0, refl)

    back : (f : Finding) → IsLineFinding T l f × (reported_at f ≡ i) → HasFinding (found_if b (RedundantFlush i)) f
    back (Overwritten j k) h = absurd (no_store h.0.0.later (subst (λ m. IsAct T m (Stores l h.0.0.later)) h.1 (subst (λ k'. IsAct T k (Stores k' h.0.0.later)) h.0.1 h.0.0.is_later)))
    back (NeverPersisted k flushed) h = absurd (no_store h.0.0.what (subst (λ m. IsAct T m (Stores l h.0.0.what)) h.1 h.0.0.is_store))
    back (RedundantFlush k) h =
        let P : ℕ → Type 0 = λ m. HasFinding (found_if b (RedundantFlush i)) (RedundantFlush m) in
        subst P (sym h.1) (if-has b (RedundantFlush i) (from (subst (λ m. IsLineFinding T l (RedundantFlush m)) h.1 h.0)))
    back (FenceWithoutFlush k) h = absurd h.0

le-test : (a b : ℕ) → a ≤ b → nat_le a b ≡ true
le-test a b h = grind arith

-- at a flush
pub found-at_flush : (T : Recording) (l n t : ℕ) (line : Line) → Follows l (history T n) line → IsAct T (suc n) (Flushes t l) → AreFoundAt T l (suc n) (found_if (is_flush_covered line t) (RedundantFlush (suc n)))
found-at_flush T l n t line f is = found-flush T l (suc n) (is_flush_covered line t) no_store (λ e. inl (t, to e)) from
  where
    law : IsRedundantFlush T t l (suc n) ↔ (count_at T l (suc n) ≤ max (front_at T l (suc n - 1)) (unwrap_or (open_mark t l (history T (suc n - 1))) 0))
    law = redundant_flush_by_fronts T t l (suc n) is

    no_store : (w : Written) → ¬ IsAct T (suc n) (Stores l w)
    no_store w store = let e = act-unique T (suc n) (Flushes t l) (Stores l w) is store in cc

    before : suc n - 1 ≡ n
    before = omega arith

    counted : count_at T l (suc n) ≡ line.count
    counted = ap (count l) (history-act T n (Flushes t l) is) ∙ sym f.counts

    fronted : front_at T l (suc n - 1) ≡ line.front
    fronted = ap (front_at T l) before ∙ sym f.fronts

    marked : unwrap_or (open_mark t l (history T (suc n - 1))) 0 ≡ unwrap_or (mark_in t line.marks) 0
    marked = ap (λ k. unwrap_or (open_mark t l (history T k)) 0) before ∙ ap (λ o. unwrap_or o 0) (sym (f.marks t))

    to : is_flush_covered line t ≡ true → IsRedundantFlush T t l (suc n)
    to e = law.1 (omega (arith, counted, fronted, marked, leb-true line.count (max line.front (unwrap_or (mark_in t line.marks) 0)) e))

    same : (u : ℕ) → IsRedundantFlush T u l (suc n) → IsRedundantFlush T t l (suc n)
    same u r =
        let e = act-unique T (suc n) (Flushes u l) (Flushes t l) r.is_flush is in
        let thread : u ≡ t = cc in
        subst (λ v. IsRedundantFlush T v l (suc n)) thread r

    from : IsLineFinding T l (RedundantFlush (suc n)) → is_flush_covered line t ≡ true
    from (inl h) = le-test line.count (max line.front (unwrap_or (mark_in t line.marks) 0)) (omega (arith, counted, fronted, marked, law.0 (same h.0 h.1)))
    from (inr h) = let e = act-unique T (suc n) (Clflushes l) (Flushes t l) h.is_clflush is in let no : ⊥ = cc in absurd no

-- at a clflush
pub found-at_clflush : (T : Recording) (l n : ℕ) (line : Line) → Follows l (history T n) line → IsAct T (suc n) (Clflushes l) → AreFoundAt T l (suc n) (found_if (nat_le line.count line.front) (RedundantFlush (suc n)))
found-at_clflush T l n line f is = found-flush T l (suc n) (nat_le line.count line.front) no_store (λ e. inr (to e)) from
  where
    law : IsRedundantClflush T l (suc n) ↔ (count_at T l (suc n) ≤ front_at T l (suc n - 1))
    law = redundant_clflush_by_fronts T l (suc n) is

    no_store : (w : Written) → ¬ IsAct T (suc n) (Stores l w)
    no_store w store = let e = act-unique T (suc n) (Clflushes l) (Stores l w) is store in cc

    before : suc n - 1 ≡ n
    before = omega arith

    counted : count_at T l (suc n) ≡ line.count
    counted = ap (count l) (history-act T n (Clflushes l) is) ∙ sym f.counts

    fronted : front_at T l (suc n - 1) ≡ line.front
    fronted = ap (front_at T l) before ∙ sym f.fronts

    to : nat_le line.count line.front ≡ true → IsRedundantClflush T l (suc n)
    to e = law.1 (omega (arith, counted, fronted, leb-true line.count line.front e))

    from : IsLineFinding T l (RedundantFlush (suc n)) → nat_le line.count line.front ≡ true
    from (inl h) = let e = act-unique T (suc n) (Flushes h.0 l) (Clflushes l) h.1.is_flush is in let no : ⊥ = cc in absurd no
    from (inr h) = le-test line.count line.front (omega (arith, counted, fronted, law.0 h))
