-- What is known, going back event by event.
use Rattle.pmt_slices.proofs.Prelude.{◌≡◌, ◌≢◌, ℕ, suc, ◌≤◌, Bool, true, false, List, length, ◌∙◌, IsFormat, Written, Span, IsStore, line_of, Act, Stores, Recording, IsAct, InSpan, act-unique, Coming, Scan, Unwritten, IsComing, IsScan, IsGoneBack, Chooses, IsOfStore, TakesStore}
use Rattle.pmt_slices.proofs.ScanLemmas.{scan-over}
use Rattle.pmt_slices.proofs.TakenLemmas.{byte-line, store-line, unwritten-over, unwritten-store, taken-last, untaken-not_last}
use Rattle.pmt_slices.proofs.ChosenLemmas.{chosen-over, chosen-store}

module _ (T : Recording) (A : Span) (m n l : ℕ) (w : Written) (before flags : List Bool) (s : Scan) (u v : Unwritten) (is : IsAct T (suc m) (Stores l w)) (within : suc m ≤ n) (old : IsGoneBack T A (suc m) n before s u flags) where
  over-scan : IsScan T A m (suc n) s
  over-scan = scan-over T A m (suc n) s (Stores l w) is (λ t k e. cc) (λ k e. cc) (λ t e. cc) old.scan

  -- over a store that takes no byte
  pub gone-untaken : TakesStore w false u v → IsGoneBack T A m n before s v flags
  gone-untaken takes = record {
    scan = over-scan;
    unwritten = unwritten-store T A m n l w false u v is within takes old.unwritten;
    chosen = chosen-over T A m n before flags (λ k. untaken-not_last T A m n l k w u v is takes old.unwritten) old.chosen;
  }

  -- over one that takes some
  pub gone-taken : (number : ℕ) (c : Coming) (new : List Bool) → number ≡ suc m → TakesStore w true u v → IsComing T l (suc m) (suc n) c → Chooses (IsOfStore number c (length flags)) flags new → IsGoneBack T A m n before s v new
  gone-taken number c new same takes coming chooses = record {
    scan = over-scan;
    unwritten = unwritten-store T A m n l w true u v is within takes old.unwritten;
    chosen = chosen-store T A m n l number w c before flags new is same within (taken-last T A m n l w u v is within takes old.unwritten).3 coming chooses old.chosen;
  }

  -- its line is one of those that the range meets
  pub taken-meets : IsFormat T.format → IsStore w → TakesStore w true u v → ((b : ℕ) → InSpan A b → line_of T.format b ≢ l) → ⊥
  taken-meets format store takes apart =
      let x = taken-last T A m n l w u v is within takes old.unwritten in
      apart x.0 x.1 (byte-line T.format w x.0 format store x.2 ∙ store-line T (suc m) l w is)

-- over an event that is no store
pub gone-other : (T : Recording) (A : Span) (m n : ℕ) (before flags : List Bool) (s r : Scan) (u : Unwritten) (a : Act) → IsAct T (suc m) a → ((l : ℕ) (w : Written) → a ≢ Stores l w) → IsScan T A m (suc n) r → IsGoneBack T A (suc m) n before s u flags →
    IsGoneBack T A m n before r u flags
gone-other T A m n before flags s r u a is none scan old = record {
  scan = scan;
  unwritten = unwritten-over T A m n u other old.unwritten;
  chosen = chosen-over T A m n before flags (λ l last. other l last.what last.is_store) old.chosen;
}
  where
    other : (l : ℕ) (w : Written) → ¬ IsAct T (suc m) (Stores l w)
    other l w store = none l w (act-unique T (suc m) a (Stores l w) is store)
