-- What is kept of one line, when that is its state after a history, and which acts leave it.
use Rattle.std.specs.Prelude.{◌≡◌, ◌≢◌, ℕ, ◌<◌, ◌≤◌, ◌==◌, max, if◌then◌else◌, List, [], ◌∷◌, length, slice_index_or, Option, Some, None, unwrap_or}
use Rattle.pmt_laws.specs.Prelude.{Act, count, event_limit, front, open_mark, Stores, Flushes, Clflushes, Fences, Asserts}
use Rattle.pmt_marks.specs.declared.mark.Mark.{Mark}

-- What contracts see of the state of a line: the stores so far, its front, and the flushes whose fences are to come.
pub record Line : Type 0 where
  pub count : ℕ
  pub front : ℕ
  pub marks : List Mark

-- The stores before the thread's last flush, if it has a mark.
abbrev pub mark_in : ℕ → List Mark → Option ℕ
mark_in t [] = None
mark_in t (m ∷ marks) = if m.thread == t then Some m.stores else mark_in t marks

-- The thread of the mark at a place.
abbrev pub thread_at : List Mark → ℕ → ℕ
thread_at marks place = let mark = slice_index_or marks place (record { thread = 0; stores = 0 }) in mark.thread

-- The threads of the marks rise, so none has two.
abbrev pub ThreadsRise : List Mark → Type 0
ThreadsRise marks = (i j : ℕ) → i < j → j < length marks → thread_at marks i < thread_at marks j

-- The mark at this place is the thread's.
pub record IsPlaceOf (t : ℕ) (marks : List Mark) (place : ℕ) : Type 0 where
  pub within : place < length marks
  pub thread : thread_at marks place ≡ t

-- A mark of the thread would stand at this place: smaller threads before it, greater ones from it on.
pub record IsGapFor (t : ℕ) (marks : List Mark) (place : ℕ) : Type 0 where
  pub within : place ≤ length marks
  pub smaller : (k : ℕ) → k < place → thread_at marks k < t
  pub greater : (k : ℕ) → place ≤ k → k < length marks → t < thread_at marks k

abbrev pub NoneAbove : ℕ → List Mark → Type 0
NoneAbove limit [] = Unit {0}
NoneAbove limit (m ∷ marks) = (m.stores ≤ limit) × NoneAbove limit marks

-- The thread has this mark now, and the other threads have theirs as before.
pub record ChangesMark (t : ℕ) (stores : Option ℕ) (old new : List Mark) : Type 0 where
  pub mark : mark_in t new ≡ stores
  pub others : (u : ℕ) → u ≢ t → mark_in u new ≡ mark_in u old

-- Marks of rising threads and within a limit stay so.
pub record KeepsMarks (limit : ℕ) (old new : List Mark) : Type 0 where
  pub rising : ThreadsRise old → ThreadsRise new
  pub within : NoneAbove limit old → NoneAbove limit new

-- What every value of type LineState keeps.
pub record IsLine (line : Line) : Type 0 where
  pub few : line.count ≤ event_limit
  pub reached : line.front ≤ line.count
  pub marked : NoneAbove line.count line.marks
  pub rising : ThreadsRise line.marks

-- The state is that of line l after the history.
pub record Follows (l : ℕ) (history : List Act) (line : Line) : Type 0 where
  pub counts : line.count ≡ count l history
  pub fronts : line.front ≡ front l history
  pub marks : (t : ℕ) → mark_in t line.marks ≡ open_mark t l history

-- A flush by the thread marks the stores so far.
pub record Marks (t : ℕ) (old new : Line) : Type 0 where
  pub count : new.count ≡ old.count
  pub front : new.front ≡ old.front
  pub marks : ChangesMark t (Some old.count) old.marks new.marks

-- A fence by the thread takes its mark away, and raises the front to it.
pub record Completes (t : ℕ) (old new : Line) : Type 0 where
  pub count : new.count ≡ old.count
  pub front : new.front ≡ max old.front (unwrap_or (mark_in t old.marks) 0)
  pub marks : ChangesMark t None old.marks new.marks

-- The act concerns other lines alone: it stores or flushes another one, or it is a fence by a thread that has not flushed line
-- l since its last fence.
abbrev pub LeavesLineUnchanged : ℕ → List Act → Act → Type 0
LeavesLineUnchanged l history (Stores k w) = k ≢ l
LeavesLineUnchanged l history (Flushes t k) = k ≢ l
LeavesLineUnchanged l history (Clflushes k) = k ≢ l
LeavesLineUnchanged l history (Fences t) = open_mark t l history ≡ None
LeavesLineUnchanged l history Asserts = Unit {0}

-- After such an act the state is still that of the line.
abbrev pub LineStaysUnchanged : Type 0
LineStaysUnchanged =
    (l : ℕ) (history : List Act) (line : Line) (a : Act) → LeavesLineUnchanged l history a → Follows l history line → Follows l (a ∷ history) line
