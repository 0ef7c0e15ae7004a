-- The findings in report order, the verdicts in event order, and the analysis of a trace.
use Rattle.std.specs.Prelude.{◌≡◌, ℕ, ◌<◌, ◌⊎◌, ◌↔◌, true, false, IsTrue, List, [], ◌∷◌, length, Some}
use Rattle.pmt_model.specs.declared.event.Event.{Event}
use Rattle.pmt_model.specs.declared.event.Op.TheVariants.{IsPersist, IsOrderedBefore}
use Rattle.pmt_model.specs.declared.finding.Finding.{Finding}
use Rattle.pmt_model.specs.declared.finding.Finding.TheVariants.{Overwritten, NeverPersisted, RedundantFlush, FenceWithoutFlush}
use Rattle.pmt_model.specs.declared.finding.Verdict.{Verdict}
use Rattle.pmt_model.specs.Traces.{Recording, event, history, lines_of}
use Rattle.pmt_model.specs.Assertions.{PersistPasses, OrderedPasses}
use Rattle.pmt_model.specs.Findings.{IsNeverPersisted, IsFlushedAfter, IsRedundantFlush, IsRedundantClflush, IsOverwritten, IsEmptyFence}
use Rattle.pmt_model.specs.Keeping.{IsKeep}

-- The finding is one of the trace.
abbrev pub IsFinding : Recording → Finding → Type 0
IsFinding T (Overwritten earlier later) = IsOverwritten T earlier later
IsFinding T (NeverPersisted i flushed) = (l : ℕ) × IsNeverPersisted T l i × (IsTrue flushed ↔ IsFlushedAfter T l i)
IsFinding T (RedundantFlush i) = ((t : ℕ) × (l : ℕ) × IsRedundantFlush T t l i) ⊎ ((l : ℕ) × IsRedundantClflush T l i)
IsFinding T (FenceWithoutFlush i) = IsEmptyFence T i

-- The event at which a finding is reported.
abbrev pub reported_at : Finding → ℕ
reported_at (Overwritten earlier later) = later
reported_at (NeverPersisted i flushed) = i
reported_at (RedundantFlush i) = i
reported_at (FenceWithoutFlush i) = i

-- At one store, the overwritten findings come by their earlier store, and then the one that it is never persisted.
abbrev pub ComesFirst : Finding → Finding → Type 0
ComesFirst (Overwritten j i) (Overwritten k m) = j < k
ComesFirst (Overwritten j i) (NeverPersisted m flushed) = Unit {0}
ComesFirst (Overwritten j i) (RedundantFlush m) = ⊥
ComesFirst (Overwritten j i) (FenceWithoutFlush m) = ⊥
ComesFirst (NeverPersisted i flushed) g = ⊥
ComesFirst (RedundantFlush i) g = ⊥
ComesFirst (FenceWithoutFlush i) g = ⊥

-- The first finding is reported before the second: by the number of its event.
abbrev pub IsReportedBefore : Finding → Finding → Type 0
IsReportedBefore f g = (reported_at f < reported_at g) ⊎ ((reported_at f ≡ reported_at g) × ComesFirst f g)

abbrev pub InReportOrder : List Finding → Type 0
InReportOrder [] = Unit {0}
InReportOrder (f ∷ []) = Unit {0}
InReportOrder (f ∷ g ∷ fs) = IsReportedBefore f g × InReportOrder (g ∷ fs)

abbrev pub HasFinding : List Finding → Finding → Type 0
HasFinding [] f = ⊥
HasFinding (g ∷ gs) f = (g ≡ f) ⊎ HasFinding gs f

-- The findings of the trace in report order, and no others.
pub record IsFindings (T : Recording) (findings : List Finding) : Type 0 where
  pub ordered : InReportOrder findings
  pub just : (f : Finding) → HasFinding findings f ↔ IsFinding T f

-- The op is an assertion; ordered tells isOrderedBefore from isPersist, and pass whether it passes after the history.
pub data IsVerdictOf (T : Recording) (v : Verdict) : Type 0 where
  OfPersist : (e : Event) → event T v.event ≡ Some e → (r : _) → e.op ≡ IsPersist r → v.ordered ≡ false → (IsTrue v.pass ↔ PersistPasses (history T v.event) r) → IsVerdictOf T v
  OfOrdered : (e : Event) → event T v.event ≡ Some e → (r : _) → (q : _) → e.op ≡ IsOrderedBefore r q → v.ordered ≡ true → (IsTrue v.pass ↔ OrderedPasses (history T v.event) r q) → IsVerdictOf T v

abbrev pub HasVerdict : List Verdict → Verdict → Type 0
HasVerdict [] v = ⊥
HasVerdict (w ∷ ws) v = (w ≡ v) ⊎ HasVerdict ws v

abbrev pub InEventOrder : ℕ → List Verdict → Type 0
InEventOrder low [] = Unit {0}
InEventOrder low (v ∷ vs) = (low < v.event) × InEventOrder v.event vs

-- The verdicts of all assertions of the trace, in event order.
pub record IsVerdicts (T : Recording) (verdicts : List Verdict) : Type 0 where
  pub ordered : InEventOrder 0 verdicts
  pub just : (v : Verdict) → HasVerdict verdicts v ↔ IsVerdictOf T v

-- The analysis of a trace: how many lines are stored or flushed, its findings, its verdicts, and what is kept.
pub record IsAnalysis (T : Recording) (lines : ℕ) (findings : List Finding) (verdicts : List Verdict) (K : List ℕ) : Type 0 where
  pub touched : lines ≡ length (lines_of (history T (length T.events)))
  pub found : IsFindings T findings
  pub judged : IsVerdicts T verdicts
  pub kept : IsKeep T K
