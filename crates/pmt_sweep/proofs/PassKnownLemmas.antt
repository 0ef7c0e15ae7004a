-- What is found when an event comes.
use Rattle.std.proofs.Common.{◌≡◌, ◌≢◌, ℕ, suc, ◌≤◌, ◌⊎◌, inl, inr, Bool, true, false, List, [], ◌++◌, refl, sym, ap, subst, ◌∙◌, arith}
use Rattle.std.specs.Prelude.{not, ◌↔◌}
use Rattle.std.proofs.lemmas.Bool.{false≢true, true≢false}
use Rattle.pmt_laws.specs.Prelude.{Finding, Overwritten, NeverPersisted, RedundantFlush, FenceWithoutFlush, Written, Act, Stores, Flushes, Clflushes, Fences, Asserts, Recording, IsAct, IsEmptyFence, IsOverwritten, IsRedundantFlush, IsRedundantClflush, IsRising, Has, reported_at, HasFinding, IsFinding}
use Rattle.pmt_laws.proofs.Histories.{act-unique, act-within}
use Rattle.pmt_tables.specs.declared.words.Overwrite.{Overwrite}
use Rattle.pmt_sweep.specs.Known.{AddsOverwrittenBy}
use Rattle.pmt_sweep.specs.Found.{is_known_late, found_if, overwritten, AreKnownAt, AreKnownTo, AddsKnown}
use Rattle.pmt_sweep.proofs.JoiningLemmas.{finding-at}
use Rattle.pmt_sweep.proofs.FindingLists.{has-append, has-left, has-right, ordered-append, overwritten_by, has-overwritten, overwritten-has, overwritten-ordered, has-if, if-has, if-ordered}

-- before the first event
pub known-start : (T : Recording) → AreKnownTo T 0 []
known-start T = record { ordered = tt; just = λ f. (λ none. absurd none, λ h. none f h.0 h.2) }
  where
    none : (f : Finding) → IsFinding T f → reported_at f ≤ 0 → ⊥
    none f h at =
        let is = finding-at T f h in
        omega (arith, (act-within T (reported_at f) is.0 is.1).0, at)

-- a finding up to the next event is at that one or before
at-or-before : (m n : ℕ) → m ≤ suc n → (m ≡ suc n) ⊎ (m ≤ n)
at-or-before m n h = grind arith

-- what is found at the next event is added
pub known-next : (T : Recording) (n : ℕ) (old new : List Finding) → AreKnownTo T n old → AddsKnown T (suc n) old new → AreKnownTo T (suc n) new
known-next T n old new before adds = subst (AreKnownTo T (suc n)) (sym adds.1) (record {
  ordered = ordered-append old found before.ordered here.ordered (λ x y first second. inl (omega (arith, ((before.just x).0 first).2, ((here.just y).0 second).2)));
  just = λ f. (there f, back f);
})
  where
    found : List Finding
    found = adds.0

    here : AreKnownAt T (suc n) found
    here = adds.2

    there : (f : Finding) → HasFinding (old ++ found) f → IsFinding T f × (is_known_late f ≡ false) × (reported_at f ≤ suc n)
    there f has = elim (has-append old found f has) [
      | inl first ↦ let x = (before.just f).0 first in (x.0, x.1, omega (arith, x.2))
      | inr second ↦ let x = (here.just f).0 second in (x.0, x.1, omega (arith, x.2))
    ]

    back : (f : Finding) → IsFinding T f × (is_known_late f ≡ false) × (reported_at f ≤ suc n) → HasFinding (old ++ found) f
    back f h = elim (at-or-before (reported_at f) n h.2) [
      | inl now ↦ has-right old found f ((here.just f).1 (h.0, h.1, now))
      | inr sooner ↦ has-left old found f ((before.just f).1 (h.0, h.1, sooner))
    ]

-- what is found at a flush or clflush is that it is redundant
known-covered :
    (T : Recording) (i : ℕ) (a : Act) (b : Bool) → IsAct T i a → ((l : ℕ) (w : Written) → a ≢ Stores l w) → ((t : ℕ) → a ≢ Fences t) → (b ≡ true) ↔ IsFinding T (RedundantFlush i) →
    AreKnownAt T i (found_if b (RedundantFlush i))
known-covered T i a b is no_store no_fence tells = record { ordered = if-ordered b (RedundantFlush i); just = λ f. (there f, λ h. back f h.0 h.1 h.2) }
  where
    there : (f : Finding) → HasFinding (found_if b (RedundantFlush i)) f → IsFinding T f × (is_known_late f ≡ false) × (reported_at f ≡ i)
    there f has =
        let x = has-if b (RedundantFlush i) f has in
        subst (λ g. IsFinding T g × (is_known_late g ≡ false) × (reported_at g ≡ i)) x.1 (tells.0 x.0, refl, refl)

    back : (f : Finding) → IsFinding T f → is_known_late f ≡ false → reported_at f ≡ i → HasFinding (found_if b (RedundantFlush i)) f
    back (Overwritten j k) h known at = absurd (no_store h.line h.later (act-unique T i a (Stores h.line h.later) is (subst (λ m. IsAct T m (Stores h.line h.later)) at h.is_later)))
    back (NeverPersisted k flushed) h known at = absurd (true≢false known)
    back (RedundantFlush k) h known at =
        subst (λ m. HasFinding (found_if b (RedundantFlush i)) (RedundantFlush m)) (sym at) (if-has b (RedundantFlush i) (tells.1 (subst (λ m. IsFinding T (RedundantFlush m)) at h)))
    back (FenceWithoutFlush k) h known at = absurd (no_fence h.thread (act-unique T i a (Fences h.thread) is (subst (λ m. IsAct T m (Fences h.thread)) at h.is_fence)))

-- at a flush
pub known-flush : (T : Recording) (i t l : ℕ) (b : Bool) → IsAct T i (Flushes t l) → (b ≡ true) ↔ IsRedundantFlush T t l i → AreKnownAt T i (found_if b (RedundantFlush i))
known-flush T i t l b is tells = known-covered T i (Flushes t l) b is (λ k w e. cc) (λ u e. cc) ((λ e. inl (t, l, tells.0 e)), (λ h. tells.1 (there h)))
  where
    there : IsFinding T (RedundantFlush i) → IsRedundantFlush T t l i
    there (inl h) =
        let act = act-unique T i (Flushes h.0 h.1) (Flushes t l) h.2.is_flush is in
        let thread : h.0 ≡ t = cc in
        let line : h.1 ≡ l = cc in
        subst (λ k. IsRedundantFlush T t k i) line (subst (λ u. IsRedundantFlush T u h.1 i) thread h.2)
    there (inr h) = absurd (let e = act-unique T i (Flushes t l) (Clflushes h.0) is h.1.is_clflush in let no : ⊥ = cc in no)

-- at a clflush, which is kept or redundant
pub known-clflush : (T : Recording) (i l : ℕ) (kept : Bool) → IsAct T i (Clflushes l) → (kept ≡ false) ↔ IsRedundantClflush T l i → AreKnownAt T i (found_if (not kept) (RedundantFlush i))
known-clflush T i l kept is tells =
    known-covered T i (Clflushes l) (not kept) is (λ k w e. cc) (λ u e. cc) ((λ e. inr (l, tells.0 (dropped kept e))), (λ h. ap not (tells.1 (there h))))
  where
    dropped : (b : Bool) → not b ≡ true → b ≡ false
    dropped true e = absurd (false≢true e)
    dropped false e = refl

    there : IsFinding T (RedundantFlush i) → IsRedundantClflush T l i
    there (inl h) = absurd (let e = act-unique T i (Clflushes l) (Flushes h.0 h.1) is h.2.is_flush in let no : ⊥ = cc in no)
    there (inr h) =
        let act = act-unique T i (Clflushes h.0) (Clflushes l) h.1.is_clflush is in
        let line : h.0 ≡ l = cc in
        subst (λ k. IsRedundantClflush T k i) line h.1

-- at an assertion
pub known-assertion : (T : Recording) (n : ℕ) → IsAct T n Asserts → AreKnownAt T n []
known-assertion T n is = record { ordered = tt; just = λ f. (λ none. absurd none, λ h. none f h.0 h.1 h.2) }
  where
    none : (f : Finding) → IsFinding T f → is_known_late f ≡ false → reported_at f ≡ n → ⊥
    none (Overwritten j k) h known at = let e = act-unique T n Asserts (Stores h.line h.later) is (subst (λ m. IsAct T m (Stores h.line h.later)) at h.is_later) in cc
    none (NeverPersisted k flushed) h known at = true≢false known
    none (RedundantFlush k) (inl h) known at = let e = act-unique T n Asserts (Flushes h.0 h.1) is (subst (λ m. IsAct T m (Flushes h.0 h.1)) at h.2.is_flush) in cc
    none (RedundantFlush k) (inr h) known at = let e = act-unique T n Asserts (Clflushes h.0) is (subst (λ m. IsAct T m (Clflushes h.0)) at h.1.is_clflush) in cc
    none (FenceWithoutFlush k) h known at = let e = act-unique T n Asserts (Fences h.thread) is (subst (λ m. IsAct T m (Fences h.thread)) at h.is_fence) in cc

-- at a fence
pub known-fence : (T : Recording) (n t : ℕ) (b : Bool) → IsAct T n (Fences t) → (b ≡ true) ↔ IsEmptyFence T n → AreKnownAt T n (found_if b (FenceWithoutFlush n))
known-fence T n t b is tells = record { ordered = if-ordered b (FenceWithoutFlush n); just = λ f. (there f, λ h. back f h.0 h.1 h.2) }
  where
    there : (f : Finding) → HasFinding (found_if b (FenceWithoutFlush n)) f → IsFinding T f × (is_known_late f ≡ false) × (reported_at f ≡ n)
    there f has =
        let x = has-if b (FenceWithoutFlush n) f has in
        subst (λ g. IsFinding T g × (is_known_late g ≡ false) × (reported_at g ≡ n)) x.1 (tells.0 x.0, refl, refl)

    back : (f : Finding) → IsFinding T f → is_known_late f ≡ false → reported_at f ≡ n → HasFinding (found_if b (FenceWithoutFlush n)) f
    back (Overwritten j k) h known at = absurd (let e = act-unique T n (Fences t) (Stores h.line h.later) is (subst (λ m. IsAct T m (Stores h.line h.later)) at h.is_later) in let no : ⊥ = cc in no)
    back (NeverPersisted k flushed) h known at = absurd (true≢false known)
    back (RedundantFlush k) (inl h) known at = absurd (let e = act-unique T n (Fences t) (Flushes h.0 h.1) is (subst (λ m. IsAct T m (Flushes h.0 h.1)) at h.2.is_flush) in let no : ⊥ = cc in no)
    back (RedundantFlush k) (inr h) known at = absurd (let e = act-unique T n (Fences t) (Clflushes h.0) is (subst (λ m. IsAct T m (Clflushes h.0)) at h.1.is_clflush) in let no : ⊥ = cc in no)
    back (FenceWithoutFlush k) h known at =
        subst (λ m. HasFinding (found_if b (FenceWithoutFlush n)) (FenceWithoutFlush m)) (sym at) (if-has b (FenceWithoutFlush n) (tells.1 (subst (IsEmptyFence T) at h)))

-- at a store
known-store : (T : Recording) (i l : ℕ) (w : Written) (earlier : List ℕ) → IsAct T i (Stores l w) → IsRising 0 earlier → ((j : ℕ) → Has earlier j ↔ IsOverwritten T j i) → AreKnownAt T i (overwritten (overwritten_by i earlier))
known-store T i l w earlier is rising just = record { ordered = overwritten-ordered i 0 earlier rising; just = λ f. (there f, λ h. back f h.0 h.1 h.2) }
  where
    there : (f : Finding) → HasFinding (overwritten (overwritten_by i earlier)) f → IsFinding T f × (is_known_late f ≡ false) × (reported_at f ≡ i)
    there f has =
        let x = has-overwritten i earlier f has in
        subst (λ g. IsFinding T g × (is_known_late g ≡ false) × (reported_at g ≡ i)) x.2 ((just x.0).0 x.1, refl, refl)

    back : (f : Finding) → IsFinding T f → is_known_late f ≡ false → reported_at f ≡ i → HasFinding (overwritten (overwritten_by i earlier)) f
    back (Overwritten j k) h known at =
        subst (λ m. HasFinding (overwritten (overwritten_by i earlier)) (Overwritten j m)) (sym at) (overwritten-has i earlier j ((just j).1 (subst (IsOverwritten T j) at h)))
    back (NeverPersisted k flushed) h known at = absurd (true≢false known)
    back (RedundantFlush k) (inl h) known at = absurd (let e = act-unique T i (Stores l w) (Flushes h.0 h.1) is (subst (λ m. IsAct T m (Flushes h.0 h.1)) at h.2.is_flush) in let no : ⊥ = cc in no)
    back (RedundantFlush k) (inr h) known at = absurd (let e = act-unique T i (Stores l w) (Clflushes h.0) is (subst (λ m. IsAct T m (Clflushes h.0)) at h.1.is_clflush) in let no : ⊥ = cc in no)
    back (FenceWithoutFlush k) h known at = absurd (let e = act-unique T i (Stores l w) (Fences h.thread) is (subst (λ m. IsAct T m (Fences h.thread)) at h.is_fence) in let no : ⊥ = cc in no)

-- what a store overwrites is added
pub adds-overwritten : (T : Recording) (i l : ℕ) (w : Written) (over : List Overwrite) (old new : List Finding) → IsAct T i (Stores l w) → AddsOverwrittenBy T i [] over → new ≡ old ++ overwritten over → AddsKnown T i old new
adds-overwritten T i l w over old new is by pushed =
    (overwritten (overwritten_by i by.found), pushed ∙ ap (λ o. old ++ overwritten o) by.added, known-store T i l w by.found is by.rising by.just)
