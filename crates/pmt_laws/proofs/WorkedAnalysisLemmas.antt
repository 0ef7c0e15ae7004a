-- The whole analysis of a small trace.
use Rattle.std.proofs.Common.{◌≡◌, ℕ, ◌<◌, ◌≤◌, ◌⊎◌, Bool, true, false, List, [], ◌∷◌, Some, inl, inr, refl, sym, ◌∙◌, ap, subst, lit<, lit≤, arith}
use Rattle.std.proofs.lemmas.Bool.{false≢true}
use Rattle.std.proofs.lemmas.Option.{same_Some}
use Rattle.std.proofs.lemmas.Bool.Decides.{nat_tests}
use Rattle.pmt_laws.specs.Prelude.{Event, Finding, Overwritten, NeverPersisted, RedundantFlush, FenceWithoutFlush, Verdict, Written, Span, Act, Stores, Flushes, Clflushes, Fences, Asserts, IsAct, event, history, ByFlush, IsFlushedAfter, IsRedundantFlush, PersistPasses, IsFinding, HasFinding, IsFindings, IsVerdictOf, OfPersist, OfOrdered, HasVerdict, IsVerdicts}
use Rattle.pmt_laws.specs.Worked.{store, clwb, sfence, byte_at, is_persist, every_finding, EveryFinding}
use Rattle.pmt_laws.proofs.NeverLemmas.{never_persisted_by_fronts}
use Rattle.pmt_laws.proofs.RedundantLemmas.{redundant_flush_by_fronts}
use Rattle.pmt_laws.proofs.OverwrittenLemmas.{overwritten_by_numbers}
use Rattle.pmt_laws.proofs.ByteAssertions.{keeps, passes-covered}
use Rattle.pmt_laws.proofs.KeptTest.{there-act}

abbrev first : Written
first = record { addr = 0x1000; bytes = 1 ∷ [] }

abbrev second : Written
second = record { addr = 0x1000; bytes = 2 ∷ [] }

-- ---- The acts of the trace by their numbers

abbrev ActIs : ℕ → Act → Type 0
ActIs i a = IsAct every_finding i a

abbrev Numbered : ℕ → Act → Type 0
Numbered i a =
    ((i ≡ 1) × (a ≡ Stores 64 first)) ⊎ (((i ≡ 2) × (a ≡ Stores 64 second)) ⊎ (((i ≡ 3) × (a ≡ Flushes 0 64)) ⊎ (((i ≡ 4) × (a ≡ Flushes 0 64)) ⊎ (((i ≡ 5) × (a ≡ Fences 1)) ⊎ ((i ≡ 6) × (a ≡ Asserts))))))

numbered : (i : ℕ) (a : Act) → ActIs i a → Numbered i a
numbered i a is = grind (arith, nat_tests, there-act)

stores : (i l : ℕ) (w : Written) → ActIs i (Stores l w) → ((i ≡ 1) ⊎ (i ≡ 2)) × (l ≡ 64)
stores i l w is = grind (arith, numbered i (Stores l w) is)

flushes : (i t l : ℕ) → ActIs i (Flushes t l) → ((i ≡ 3) ⊎ (i ≡ 4)) × (t ≡ 0) × (l ≡ 64)
flushes i t l is = grind (arith, numbered i (Flushes t l) is)

no_clflush : (i l : ℕ) → ActIs i (Clflushes l) → ⊥
no_clflush i l is = grind (arith, numbered i (Clflushes l) is)

fence : (i t : ℕ) → ActIs i (Fences t) → i ≡ 5
fence i t is = grind (arith, numbered i (Fences t) is)

assertion : (i : ℕ) → ActIs i Asserts → i ≡ 6
assertion i is = grind (arith, numbered i Asserts is)

-- ---- The findings

abbrev listed : List Finding
listed = NeverPersisted 1 true ∷ Overwritten 1 2 ∷ NeverPersisted 2 true ∷ RedundantFlush 4 ∷ FenceWithoutFlush 5 ∷ []

-- A flush comes after both stores.
flushed_after : (i : ℕ) → i < 3 → IsFlushedAfter every_finding 64 i
flushed_after i before = (3, before, ByFlush 0 (clwb 0 0x1000, refl, refl))

first_lost : IsFinding every_finding (NeverPersisted 1 true)
first_lost = (64, (never_persisted_by_fronts every_finding 64 1 first (store 0 0x1000 1, refl, refl)).1 (lit< tt), (λ _. flushed_after 1 (lit< tt), λ _. refl))

second_lost : IsFinding every_finding (NeverPersisted 2 true)
second_lost = (64, (never_persisted_by_fronts every_finding 64 2 second (store 0 0x1000 2, refl, refl)).1 (lit< tt), (λ _. flushed_after 2 (lit< tt), λ _. refl))

first_overwritten : IsFinding every_finding (Overwritten 1 2)
first_overwritten =
    (overwritten_by_numbers every_finding 1 2).1
    (64, first, second, 0x1000, record { is_earlier = (store 0 0x1000 1, refl, refl); is_later = (store 0 0x1000 2, refl, refl); writes_later = refl; last = refl; unflushed = lit< tt })

second_flush : IsFinding every_finding (RedundantFlush 4)
second_flush = inl (0, 64, (redundant_flush_by_fronts every_finding 0 64 4 (clwb 0 0x1000, refl, refl)).1 (lit≤ tt))

-- Thread 1 flushes nothing.
empty_fence : IsFinding every_finding (FenceWithoutFlush 5)
empty_fence = record {
  thread = 1;
  is_fence = (sfence 1, refl, refl);
  nothing = λ j l before is. absurd (let zero_is : ◌≡◌ {A = ℕ} 1 0 = (flushes j 1 l is).1 in omega arith);
}

-- The first flush has stores to mark.
first_flush : IsRedundantFlush every_finding 0 64 3 → ⊥
first_flush redundant = let above : 2 ≤ 0 = (redundant_flush_by_fronts every_finding 0 64 3 (clwb 0 0x1000, refl, refl)).0 redundant in omega arith

listed_is : (f : Finding) → HasFinding listed f → IsFinding every_finding f
listed_is f is = grind (arith, nat_tests, first_lost, first_overwritten, second_lost, second_flush, empty_fence)

is_listed : (f : Finding) → IsFinding every_finding f → HasFinding listed f
is_listed (Overwritten j i) o = grind (arith, nat_tests, stores)
is_listed (NeverPersisted i flushed) (l, never, told) = go i flushed at.0 (told.1 after)
  where
    at : ((i ≡ 1) ⊎ (i ≡ 2)) × (l ≡ 64)
    at = stores i l never.what never.is_store

    early : (i ≡ 1) ⊎ (i ≡ 2) → i < 3
    early (inl e) = omega arith
    early (inr e) = omega arith

    after : IsFlushedAfter every_finding l i
    after = let P : ℕ → Type 0 = λ k. IsFlushedAfter every_finding k i in subst P (sym at.1) (flushed_after i (early at.0))

    go : (i : ℕ) (flushed : Bool) → (i ≡ 1) ⊎ (i ≡ 2) → flushed ≡ true → HasFinding listed (NeverPersisted i flushed)
    go i flushed (inl e) yes_is = inl (cc)
    go i flushed (inr e) yes_is = inr (inr (inl (cc)))
is_listed (RedundantFlush i) (inl (t, l, redundant)) = go (flushes i t l redundant.is_flush).0 redundant
  where
    at : ((i ≡ 3) ⊎ (i ≡ 4)) × (t ≡ 0) × (l ≡ 64)
    at = flushes i t l redundant.is_flush

    go : (i ≡ 3) ⊎ (i ≡ 4) → IsRedundantFlush every_finding t l i → HasFinding listed (RedundantFlush i)
    go (inl e) r =
        let P : ℕ → Type 0 = λ k. IsRedundantFlush every_finding t l k in
        let Q : ℕ → Type 0 = λ k. IsRedundantFlush every_finding t k 3 in
        let R : ℕ → Type 0 = λ u. IsRedundantFlush every_finding u 64 3 in
        absurd (first_flush (subst R at.1 (subst Q at.2 (subst P e r))))
    go (inr e) r = inr (inr (inr (inl (cc))))
is_listed (RedundantFlush i) (inr (l, redundant)) = absurd (no_clflush i l redundant.is_clflush)
is_listed (FenceWithoutFlush i) empty =
    let e : i ≡ 5 = fence i empty.thread empty.is_fence in inr (inr (inr (inr (inl (ap (λ (k : ℕ). FenceWithoutFlush k) (sym e))))))

findings_are : IsFindings every_finding listed
findings_are = record {
  ordered = (inl (lit< tt), (inr (refl, tt), (inl (lit< tt), (inl (lit< tt), tt))));
  just = λ f. (listed_is f, is_listed f);
}

-- ---- The verdict

abbrev failed : Verdict
failed = record { event = 6; ordered = false; pass = false }

fails : PersistPasses (history every_finding 6) (byte_at 0x1000) → ⊥
fails passes = let above : 2 ≤ 0 = passes-covered (history every_finding 6) 0x1000 passes in omega arith

failed_is : IsVerdictOf every_finding failed
failed_is = OfPersist (is_persist 0x1000) refl (byte_at 0x1000) refl refl (λ e. absurd (false≢true e), λ passes. absurd (fails passes))

same_verdict : (v : Verdict) → v.event ≡ 6 → v.ordered ≡ false → v.pass ≡ false → failed ≡ v
same_verdict v e ordered pass =
    let verdict : ℕ → Bool → Bool → Verdict = λ n o p. record { event = n; ordered = o; pass = p } in
    ap (λ (n : ℕ). verdict n false false) (sym e) ∙ ap (λ (o : Bool). verdict v.event o false) (sym ordered) ∙ ap (λ (p : Bool). verdict v.event v.ordered p) (sym pass)

not_true : (b : Bool) → (b ≡ true → ⊥) → b ≡ false
not_true true no_true = absurd (no_true refl)
not_true false no_true = refl

-- The event of an assertion.
only_assertion : (i : ℕ) (e : Event) → event every_finding i ≡ Some e → i ≡ 6 → e ≡ is_persist 0x1000
only_assertion i e at six =
    let P : ℕ → Type 0 = λ k. event every_finding k ≡ Some e in same_Some e (is_persist 0x1000) (sym (subst P six at))

is_failed : (v : Verdict) → IsVerdictOf every_finding v → HasVerdict (failed ∷ []) v
is_failed v (OfPersist e at r op ordered pass) = inl (same_verdict v six ordered (not_true v.pass (λ passes. fails (on_byte (pass.0 passes)))))
  where
    act_is : ActIs v.event Asserts
    act_is = (e, at, (rw op refl))

    six : v.event ≡ 6
    six = assertion v.event act_is

    range : r ≡ byte_at 0x1000
    range = let same : e ≡ is_persist 0x1000 = only_assertion v.event e at six in cc

    on_byte : PersistPasses (history every_finding v.event) r → PersistPasses (history every_finding 6) (byte_at 0x1000)
    on_byte passes =
        let P : ℕ → Type 0 = λ k. PersistPasses (history every_finding k) r in
        let Q : Span → Type 0 = λ q. PersistPasses (history every_finding 6) q in
        subst Q range (subst P six passes)
is_failed v (OfOrdered e at r q op ordered pass) =
    let act_is : ActIs v.event Asserts = (e, at, (rw op refl)) in
    let same : e ≡ is_persist 0x1000 = only_assertion v.event e at (assertion v.event act_is) in
    absurd (cc)

verdicts_are : IsVerdicts every_finding (failed ∷ [])
verdicts_are = record { ordered = (lit< tt, tt); just = λ v. (by_list v, is_failed v) }
  where
    by_list : (v : Verdict) → HasVerdict (failed ∷ []) v → IsVerdictOf every_finding v
    by_list v (inl e) = subst (IsVerdictOf every_finding) e failed_is
    by_list v (inr none) = absurd none

-- One line, the findings, the verdict, and what is kept.
pub every_finding_says : EveryFinding
every_finding_says = record {
  touched = refl;
  found = findings_are;
  judged = verdicts_are;
  kept = (keeps every_finding (1 ∷ 2 ∷ 6 ∷ []) refl).keep;
}
