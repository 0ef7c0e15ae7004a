-- What a pass over the events of a trace keeps, at a fence too, and what it tells.
use Rattle.std.specs.Prelude.{◌≡◌, ℕ, suc, ◌+◌, ◌<◌, ◌≤◌, ◌⊎◌, ◌↔◌, Bool, true, false, List, length, Option, Some, None, slice_get, map, All, zero, ◌==◌, not, [], ◌∷◌}
use Rattle.pmt_laws.specs.Prelude.{Act, Recording, history, lines_of, IsKept, Fences, IsAct, Has, Stores, Flushes, Clflushes, Asserts, front, IsKeep, Event, filter}
use Rattle.pmt_laws.specs.Passing.{IsOpenFlush, IsDecided}
use Rattle.pmt_rows.specs.declared.rows.Rows.{Rows}
use Rattle.pmt_rows.specs.declared.open.OpenFlush.{OpenFlush}
use Rattle.pmt_rows.specs.Known.{IsKnownWith}
use Rattle.pmt_rows.specs.Waiting.{AreWaiting, waiting, waits, raise_all, waits_all}
use Rattle.pmt_safety.specs.Safety.{safe_store, safe_store_at}
use Rattle.pmt_trimming.specs.declared.pass.Mark.{Mark}
use Rattle.pmt_trimming.specs.declared.pass.Pass.{Pass}
use Rattle.pmt_trimming.specs.declared.pass.Mark.TheVariants as marks

-- Event k of the trace so far has this mark.
abbrev pub TellsMark : Recording → ℕ → Mark → Type 0
TellsMark T k marks.Open = IsOpenFlush T k
TellsMark T k marks.Kept = IsDecided T k × IsKept T k
TellsMark T k marks.Dropped = IsDecided T k × ¬ IsKept T k

-- The mark of an event that is kept, or not.
abbrev pub mark_from : Bool → Mark
mark_from true = marks.Kept
mark_from false = marks.Dropped

-- Whether an event with the mark is kept, if that is decided.
abbrev pub decision_by : Mark → Option Bool
decision_by marks.Open = None
decision_by marks.Kept = Some true
decision_by marks.Dropped = Some false

-- Whether it is kept if the trace ends.
abbrev pub flag_by : Mark → Bool
flag_by marks.Open = false
flag_by marks.Kept = true
flag_by marks.Dropped = false

-- The marks are those of the events after event settled.
abbrev pub AreMarks : Recording → ℕ → List Mark → Type 0
AreMarks T settled list = (i : ℕ) (m : Mark) → slice_get list i ≡ Some m → TellsMark T (suc (settled + i)) m

-- After the history these lines have a place, and each has its row; and these flushes wait for a fence of their thread.
pub record AreLines (lines : List ℕ) (h : List Act) (r : Rows) (lists : List (List OpenFlush)) : Type 0 where
  pub rows : IsKnownWith lines h (λ l. safe_store l h) r
  pub waiting : AreWaiting lines h lists

-- The lines are those that were stored or flushed, in order of first appearance.
abbrev pub AreLinesOf : List Act → Pass → Type 0
AreLinesOf h p = AreLines (lines_of h) h p.rows p.waiting

-- The pass has taken the events of this trace, and no others.
pub record IsPassOf (T : Recording) (p : Pass) : Type 0 where
  pub format : p.format ≡ T.format
  pub lines : AreLinesOf (history T (length T.events)) p
  pub all : p.settled + length p.marks.items ≡ length T.events
  pub marks : AreMarks T p.settled p.marks.items
  pub before : (k : ℕ) → k ≤ p.settled → IsDecided T k

-- The pass has taken the events of this trace but the last, of which the mark tells.
pub record HasJudged (T : Recording) (p : Pass) (mark : Mark) : Type 0 where
  pub format : p.format ≡ T.format
  pub lines : AreLinesOf (history T (length T.events)) p
  pub all : suc (p.settled + length p.marks.items) ≡ length T.events
  pub marks : AreMarks T p.settled p.marks.items
  pub before : (k : ℕ) → k ≤ p.settled → IsDecided T k
  pub last : TellsMark T (length T.events) mark

-- It has taken the events of some trace.
abbrev pub IsPassing : Pass → Type 0
IsPassing p = (T : Recording) × IsPassOf T p

-- The events between these are decided.
abbrev pub AreDecidedFrom : Recording → ℕ → ℕ → Type 0
AreDecidedFrom T before last = (k : ℕ) → before < k → k ≤ last → IsDecided T k

-- How many events it has taken.
abbrev pub taken : Pass → ℕ
taken p = p.settled + length p.marks.items

-- The oldest event that was not given out is decided, and is given out; or there is none, or it is an open flush.
abbrev pub Settles : Recording → ℕ → Option Bool → ℕ → Type 0
Settles T old None new = (new ≡ old) × ((old ≡ length T.events) ⊎ IsOpenFlush T (suc old))
Settles T old (Some kept) new =
    (new ≡ suc old) × (suc old ≤ length T.events) × IsDecided T (suc old) × ((kept ≡ true) ↔ IsKept T (suc old))

-- A flag for each event after event settled: whether it is kept.
abbrev pub AreFlags : Recording → ℕ → List Bool → Type 0
AreFlags T settled flags =
    (settled + length flags ≡ length T.events) × ((i : ℕ) → (slice_get flags i ≡ Some true) ↔ IsKept T (suc (settled + i)))

-- ---- What a pass does at a fence

abbrev pub number_of : OpenFlush → ℕ
number_of f = f.number

-- Each mark is that of its event, or the event is one of these.
abbrev pub AreMarksBut : Recording → ℕ → List Mark → List OpenFlush → Type 0
AreMarksBut T settled list flushes = (i : ℕ) (m : Mark) → slice_get list i ≡ Some m → TellsMark T (suc (settled + i)) m ⊎ Has (map number_of flushes) (suc (settled + i))

-- Event n + 1 is a fence, which decides these flushes: those of its thread since its last fence. Each has a mark, and the marks are those of
-- all other events.
pub record AreAtFence (T : Recording) (n : ℕ) (lines : List ℕ) (settled : ℕ) (rows : Rows) (list : List Mark) (flushes : List OpenFlush) : Type 0 where
  pub thread : ℕ
  pub fence : IsAct T (suc n) (Fences thread)
  pub known : IsKnownWith lines (history T n) (λ l. safe_store_at T l n) rows
  pub waiting : map (waits lines) flushes ≡ waiting thread (history T n)
  pub within : All (λ f. f.slot < length lines) flushes
  pub marked : All (λ k. (settled < k) × (k ≤ settled + length list)) (map number_of flushes)
  pub decided : All (λ k. IsDecided T k) (map number_of flushes)
  pub marks : AreMarksBut T settled list flushes

-- The flushes have raised their lines, all marks are those of their events, and it is told whether the fence is kept.
pub record ArePastFence (T : Recording) (n : ℕ) (lines : List ℕ) (settled : ℕ) (flushes : List OpenFlush) (rows : Rows) (list : List Mark) (rises : Bool) : Type 0 where
  pub known : IsKnownWith lines (history T n) (raise_all (waits_all lines flushes) (λ l. safe_store_at T l n)) rows
  pub marks : AreMarks T settled list
  pub fence : (rises ≡ true) ↔ IsKept T (suc n)

-- A mark for each event.
abbrev pub all_marks : List Event → List Bool
all_marks events = map (λ (e : Event). true) events

-- ---- How many events are kept

-- Those of the lines whose front the act raises, which comes after the history.
abbrev pub raised : List ℕ → Act → List Act → List ℕ
raised lines a history = filter (λ l. not (front l (a ∷ history) == front l history)) lines

-- What an act counts that raises the fronts of so many lines. A store and an assertion count one. So does a clflush that raises a front.
-- A fence that does counts one, and one for each line whose front it raises.
abbrev pub counts : Act → ℕ → ℕ
counts (Stores l w) n = 1
counts (Flushes t l) n = 0
counts (Clflushes l) zero = 0
counts (Clflushes l) (suc n) = 1
counts (Fences t) zero = 0
counts (Fences t) (suc n) = suc (suc n)
counts Asserts n = 1

abbrev pub all_counts : List ℕ → List Act → ℕ
all_counts lines [] = 0
all_counts lines (a ∷ history) = counts a (length (raised lines a history)) + all_counts lines history

-- Together: the stores and assertions, the fences and clflushes that raise a front, and the pairs of a line and a fence that raises its
-- front.
abbrev pub kept_count : Recording → ℕ
kept_count T = all_counts (lines_of (history T (length T.events))) (history T (length T.events))

-- So many events are kept.
abbrev pub KeepIsCounted : Type 0
KeepIsCounted = (T : Recording) (K : List ℕ) → IsKeep T K → length K ≡ kept_count T
