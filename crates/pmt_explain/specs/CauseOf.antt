-- The cause of an event at a place, and of all events at the end of a trace.
use Rattle.std.specs.Prelude.{ℕ, Option, MatchOption, ◌≡◌, suc, ◌+◌, Bool, false, if◌then◌else◌, ◌==◌, List, None, Some, length, slice_get, slice_index_or, unwrap_or, nat_eq}
use Rattle.pmt_explain.specs.Prelude.{Written, Stores, Recording, IsAct, Act, Flushes, Clflushes, Fences, Asserts, Cause, IsPending, IsCause, Unflushed, Unfenced}
use Rattle.std.specs.declared.hash.FoldHasher.{FoldHasher}
use Rattle.std.specs.declared.hash.BuildHasherDefault.{BuildHasherDefault}
use Rattle.indexmap.specs.IndexMap.{IndexMap, get}

-- Event i is a store, and this is why it is not safe at place n.
pub record IsStoreCause (T : Recording) (n i : ℕ) (c : Cause) : Type 0 where
  pub line : ℕ
  pub what : Written
  pub is_store : IsAct T i (Stores line what)
  pub why : IsCause T line n i c

-- The cause of event i at place n; none where it is no store, or persisted at the end of every run to n.
abbrev pub IsCauseOf : Recording → ℕ → ℕ → Option Cause → Type 0
IsCauseOf T n i o = MatchOption o ((l : ℕ) (w : Written) → IsAct T i (Stores l w) → ¬ IsPending T l n i) (IsStoreCause T n i)

-- ---- The causes of all events at the end of a trace, event by event from there back

-- Of events after the first `start`, in order, their causes at the end of the trace, where they have one.
abbrev pub TellCauses : Recording → ℕ → List (Option Cause) → Type 0
TellCauses T start causes = (k : ℕ) (o : Option Cause) → slice_get causes k ≡ Some o → IsCauseOf T (length T.events) (suc k + start) o

-- Those of all events after the first `start`.
pub record AreCausesAfter (T : Recording) (start : ℕ) (causes : List (Option Cause)) : Type 0 where
  pub all : length causes + start ≡ length T.events
  pub each : TellCauses T start causes

-- Of each line that is flushed after a place, the cause of a store to it there; none where it would be safe.
abbrev pub Causes : Type 0
Causes = IndexMap ℕ (Option Cause) (BuildHasherDefault FoldHasher)

-- The cause of a store to the line.
abbrev pub cause_in : Causes → ℕ → Option Cause
cause_in causes line = unwrap_or (get nat_eq causes line) (Some Unflushed)

-- The cause before a flush of the line, by the cause after it.
abbrev pub before_flush : ℕ → ℕ → List Bool → Option ℕ → Option Cause → Option Cause
before_flush number thread fenced fence None = None
before_flush number thread fenced fence (Some c) = if slice_index_or fenced thread false then None else Some (Unfenced number thread fence)

-- The cause of a store to the line before the event with this number, by those after it, the threads that fence and the first
-- fence.
abbrev pub cause_before : Act → ℕ → List Bool → Option ℕ → (ℕ → Option Cause) → ℕ → Option Cause
cause_before (Stores k w) number fenced fence causes line = causes line
cause_before (Flushes t k) number fenced fence causes line = if k == line then before_flush number t fenced fence (causes k) else causes line
cause_before (Clflushes k) number fenced fence causes line = if k == line then None else causes line
cause_before (Fences t) number fenced fence causes line = causes line
cause_before Asserts number fenced fence causes line = causes line

-- The first fence, with one more event, which has this number.
abbrev pub fence_before : Act → ℕ → Option ℕ → Option ℕ
fence_before (Stores k w) number fence = fence
fence_before (Flushes t k) number fence = fence
fence_before (Clflushes k) number fence = fence
fence_before (Fences t) number fence = Some number
fence_before Asserts number fence = fence

-- The cause of the event.
abbrev pub cause_told : Act → (ℕ → Option Cause) → Option Cause
cause_told (Stores k w) causes = causes k
cause_told (Flushes t k) causes = None
cause_told (Clflushes k) causes = None
cause_told (Fences t) causes = None
cause_told Asserts causes = None
