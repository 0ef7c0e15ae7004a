-- What a trimmed trace is: the whole promise, field by field.
use Rattle.std.specs.Prelude.{◌≡◌, ℕ, ◌≤◌, ◌↔◌, false, List, length}
use Rattle.pmt_laws.specs.Prelude.{Written, Span, Act, Stores, Recording, event, IsAct, history, Has, always_stays, IsSelection, cut, matching_place, IsFaithful, IsKeep, without, PersistPasses, OrderedPasses, IsNeverPersisted, HasSameVectors, HasNoWaste}

-- No selection of the trace with the same counts of persisted stores at every place has fewer events than K.
abbrev pub IsShortest : Recording → List ℕ → Type 0
IsShortest T K = (S : List ℕ) → IsSelection T S → HasSameVectors T S → length K ≤ length S

-- K selects from the trace what the trimmed trace has.
pub record IsTrimmed (T : Recording) (K : List ℕ) (trimmed : Recording) : Type 0 where
  -- K is a rising list of event numbers, among them those of all stores and assertions.
  pub selection : IsSelection T K
  -- The trimmed trace has these events and no others, in their order, in the format of the trace.
  pub selected : trimmed ≡ cut T K
  -- Each of them stands at its matching place.
  pub placed : (k : ℕ) → Has K k → event trimmed (matching_place K k) ≡ event T k
  -- Besides the stores and assertions, K has the useful flushes and fences.
  pub keep : IsKeep T K
  -- At every place of the trace, also inside what was dropped, a crash may leave the same images and the same counts of
  -- persisted stores as at the matching place of the trimmed trace.
  pub faithful : (n : ℕ) → n ≤ length T.events → IsFaithful T K n
  -- No flush, clflush or fence of K can go: without it, K is not faithful at some place.
  pub none_can_go : (k : ℕ) (a : Act) → Has K k → IsAct T k a → always_stays a ≡ false →
      (n : ℕ) × (n ≤ length T.events) × ¬ IsFaithful T (without K k) n
  -- Each isPersist has the verdict of the matching one.
  pub persist_stays : (i : ℕ) (A : Span) → PersistPasses (history T i) A ↔ PersistPasses (history trimmed (matching_place K i)) A
  -- Each isOrderedBefore has the verdict of the matching one.
  pub ordered_stays : (i : ℕ) (A B : Span) → OrderedPasses (history T i) A B ↔ OrderedPasses (history trimmed (matching_place K i)) A B
  -- A store is never persisted exactly if the matching one is.
  pub never_persisted_stays : (l i : ℕ) (w : Written) → IsAct T i (Stores l w) →
      IsNeverPersisted T l i ↔ IsNeverPersisted trimmed l (matching_place K i)
  -- None that leaves the same counts of persisted stores at every place is shorter.
  pub shortest : IsShortest T K
  -- The trimmed trace has no redundant flush, and no fence without flush.
  pub no_waste : HasNoWaste trimmed
  -- Trimming it again drops nothing.
  pub trimmed_again : (J : List ℕ) → IsKeep trimmed J → cut trimmed J ≡ trimmed
