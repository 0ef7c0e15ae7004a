-- Jobs of lines and of fences: what they are of a trace, how they are made, run and told.
use Rattle.std.specs.Prelude.{◌≡◌, ℕ, ◌⊎◌, ◌↔◌, IsTrue, List, ◌≢◌, ◌-◌, ◌<◌, [], ◌∷◌, length, Some, None, Bool, true, false, ◌+◌, ◌%◌, ◌^◌, ◌≤◌, ◌++◌, nat_le, nat_lt, max, if◌then◌else◌, map, slice_index, unwrap_or, All, slice_index_or, slice_set}
use Rattle.pmt_laws.specs.Prelude.{Finding, Overwritten, NeverPersisted, RedundantFlush, FenceWithoutFlush, Recording, IsNeverPersisted, IsFlushedAfter, IsRedundantFlush, IsRedundantClflush, IsOverwritten, InReportOrder, HasFinding, Event, Written, Stores, Flushes, Clflushes, Fences, Act, event, IsAct, history, event_limit, IsTrace, lines_of, has_line, with_line, open_mark, front_at, IsEmptyFence, last_flush, IsRising, Has, AllByRecursion}
use Rattle.pmt_marks.specs.Lines.{Line, Follows, mark_in}
use Rattle.pmt_lines.specs.declared.step.StepKind.{StepKind}
use Rattle.pmt_lines.specs.declared.step.StepKind.TheVariants.{Store, Flush, Clflush, Fence}
use Rattle.pmt_lines.specs.declared.step.Step.{Step}
use Rattle.pmt_lines.specs.declared.line_findings.Scan.{Scan}
use Rattle.pmt_lines.specs.declared.line_findings.Ending.{Ending}

-- The finding is one of the trace, and of line l. A fence without flush is of no line.
abbrev pub IsLineFinding : Recording → ℕ → Finding → Type 0
IsLineFinding T l (Overwritten earlier later) = (o : IsOverwritten T earlier later) × (o.line ≡ l)
IsLineFinding T l (NeverPersisted i flushed) = IsNeverPersisted T l i × (IsTrue flushed ↔ IsFlushedAfter T l i)
IsLineFinding T l (RedundantFlush i) = ((t : ℕ) × IsRedundantFlush T t l i) ⊎ IsRedundantClflush T l i
IsLineFinding T l (FenceWithoutFlush i) = ⊥

-- The findings of line l in report order, and no others.
pub record AreLineFindings (T : Recording) (l : ℕ) (findings : List Finding) : Type 0 where
  pub ordered : InReportOrder findings
  pub just : (f : Finding) → HasFinding findings f ↔ IsLineFinding T l f

-- ---- Jobs of lines and of fences: what they are of a trace, how they are made, run and told

-- Event n is this kind of step for line l. The job of a line has fences by any thread.
abbrev pub IsKind : Recording → ℕ → ℕ → ℕ → StepKind → Type 0
IsKind T l n t (Store addr len) = (w : Written) × IsAct T n (Stores l w) × (w.addr ≡ addr) × (length w.bytes ≡ len)
IsKind T l n t Flush = IsAct T n (Flushes t l)
IsKind T l n t Clflush = IsAct T n (Clflushes l)
IsKind T l n t Fence = IsAct T n (Fences t)

-- Event n is by thread t.
abbrev pub IsBy : Recording → ℕ → ℕ → Type 0
IsBy T n t = (e : Event) × (event T n ≡ Some e) × (e.thread ≡ t)

-- The step is an event of the trace, for line l.
pub record IsStepOf (T : Recording) (l : ℕ) (s : Step) : Type 0 where
  pub kind : IsKind T l s.number s.thread s.kind
  pub by : IsBy T s.number s.thread

-- Event n matters to line l: a store to it, a flush or a clflush of it, or a fence by a thread that has flushed it since its
-- last fence.
pub data Touches (T : Recording) (l n : ℕ) : Type 0 where
  ByStore : (w : Written) → IsAct T n (Stores l w) → Touches T l n
  ByFlush : (t : ℕ) → IsAct T n (Flushes t l) → Touches T l n
  ByClflush : IsAct T n (Clflushes l) → Touches T l n
  ByFence : (t : ℕ) → IsAct T n (Fences t) → open_mark t l (history T (n - 1)) ≢ None → Touches T l n

-- After event low the steps are such events, in order, among them each one that matters.
abbrev pub IsWalkFrom : (Step → Type 0) → (ℕ → Type 0) → ℕ → List Step → Type 0
IsWalkFrom IsOne Matters low [] = (n : ℕ) → low < n → ¬ Matters n
IsWalkFrom IsOne Matters low (s ∷ steps) =
    (low < s.number) × IsOne s × ((n : ℕ) → low < n → n < s.number → ¬ Matters n) × IsWalkFrom IsOne Matters s.number steps

-- The job of line l in the trace. It may have more fences than those that matter.
abbrev pub IsJobOf : Recording → ℕ → List Step → Type 0
IsJobOf T l steps = IsWalkFrom (IsStepOf T l) (Touches T l) 0 steps

-- Each step of the job matters to line l.
abbrev pub EachTouches : Recording → ℕ → List Step → Type 0
EachTouches T l steps = AllByRecursion (λ s. Touches T l s.number) steps

-- Event n is a flush of some line, or a fence, by thread t.
abbrev pub IsThreadKind : Recording → ℕ → ℕ → StepKind → Type 0
IsThreadKind T n t (Store addr len) = ⊥
IsThreadKind T n t Flush = (l : ℕ) × IsAct T n (Flushes t l)
IsThreadKind T n t Clflush = ⊥
IsThreadKind T n t Fence = IsAct T n (Fences t)

abbrev pub IsThreadStep : Recording → Step → Type 0
IsThreadStep T s = IsThreadKind T s.number s.thread s.kind

-- Event n is a flush or a fence.
pub data IsFlushOrFence (T : Recording) (n : ℕ) : Type 0 where
  AFlush : (t l : ℕ) → IsAct T n (Flushes t l) → IsFlushOrFence T n
  AFence : (t : ℕ) → IsAct T n (Fences t) → IsFlushOrFence T n

-- All flushes and fences of the trace, in order.
abbrev pub IsThreadJobOf : Recording → List Step → Type 0
IsThreadJobOf T steps = IsWalkFrom (IsThreadStep T) (IsFlushOrFence T) 0 steps

-- ---- The fences without flush

-- The rising numbers of all fences without flush.
pub record IsEmptyFences (T : Recording) (empty : List ℕ) : Type 0 where
  pub rising : IsRising 0 empty
  pub just : (n : ℕ) → Has empty n ↔ IsEmptyFence T n

-- What contracts see of the result of the fences' job.
pub record ThreadFound : Type 0 where
  pub steps : List Step
  pub empty : List ℕ

-- What every value of type ThreadResult keeps: the fences are those of its job, in whatever trace the job is of.
pub record IsThreadResult (r : ThreadFound) : Type 0 where
  pub empty : (T : Recording) → IsThreadJobOf T r.steps → IsEmptyFences T r.empty

-- ---- What a step does to the state of a line

-- Where the old state is that of line l, the new one is so after this kind of step by thread t.
abbrev pub TakesKind : ℕ → ℕ → StepKind → Line → Line → Type 0
TakesKind l t (Store addr len) old new = (h : List Act) (w : Written) → Follows l h old → Follows l (Stores l w ∷ h) new
TakesKind l t Flush old new = (h : List Act) → Follows l h old → Follows l (Flushes t l ∷ h) new
TakesKind l t Clflush old new = (h : List Act) → Follows l h old → Follows l (Clflushes l ∷ h) new
TakesKind l t Fence old new = (h : List Act) → Follows l h old → Follows l (Fences t ∷ h) new

abbrev pub TakesStep : Step → Line → Line → Type 0
TakesStep s old new = (l : ℕ) → TakesKind l s.thread s.kind old new

-- ---- Lists of steps by rising numbers

-- What contracts see of the job of a line.
pub record LineWork : Type 0 where
  pub line : ℕ
  pub steps : List Step

-- A store has 1 to 8 bytes inside one aligned word of 8.
abbrev pub IsStepKind : StepKind → Type 0
IsStepKind (Store addr len) = (addr < 2 ^ 48) × (1 ≤ len) × (addr % 8 + len ≤ 8)
IsStepKind Flush = Unit {0}
IsStepKind Clflush = Unit {0}
IsStepKind Fence = Unit {0}

-- The numbers rise, the first from above low, and none is past the limit of events; each store lies inside one word.
abbrev pub AreSteps : ℕ → List Step → Type 0
AreSteps low [] = Unit {0}
AreSteps low (s ∷ steps) = (low < s.number) × (s.number ≤ event_limit) × IsStepKind s.kind × AreSteps s.number steps

-- The number of the last step, or low where there is none.
abbrev pub last_number : ℕ → List Step → ℕ
last_number low [] = low
last_number low (s ∷ steps) = last_number s.number steps

abbrev pub with_step : LineWork → Step → LineWork
with_step job s = record { line = job.line; steps = job.steps ++ s ∷ [] }

abbrev pub is_flush : StepKind → Bool
is_flush (Store addr len) = false
is_flush Flush = true
is_flush Clflush = false
is_flush Fence = false

abbrev pub is_fence : StepKind → Bool
is_fence (Store addr len) = false
is_fence Flush = false
is_fence Clflush = false
is_fence Fence = true

-- ---- Where the front of a line rises, and what is found of it

-- A place where the front of a line rises, and the front after it.
abbrev pub Raise : Type 0
Raise = ℕ × ℕ

-- From place low to place high the front of the line rises at these places, to these numbers, and nowhere else.
abbrev pub RaisesBetween : Recording → ℕ → ℕ → ℕ → List Raise → Type 0
RaisesBetween T l low high [] = (low ≤ high) × ((n : ℕ) → low ≤ n → n ≤ high → front_at T l n ≡ front_at T l low)
RaisesBetween T l low high (r ∷ raises) =
    (low < r.0) × ((n : ℕ) → low ≤ n → n < r.0 → front_at T l n ≡ front_at T l low) × (front_at T l low < r.1)
    × (front_at T l r.0 ≡ r.1) × RaisesBetween T l r.0 high raises

-- All places at which the front of the line rises, with the new fronts.
abbrev pub IsRaises : Recording → ℕ → List Raise → Type 0
IsRaises T l raises = RaisesBetween T l 0 (length T.events) raises

-- What contracts see of the result of a line's job.
pub record LineFound : Type 0 where
  pub job : LineWork
  pub raises : List Raise
  pub findings : List Finding

-- What every value of type LineResult keeps: the raises and the findings are those of its job's line, in whatever trace the job
-- is of.
pub record IsLineResult (r : LineFound) : Type 0 where
  pub raises : (T : Recording) → IsJobOf T r.job.line r.job.steps → IsRaises T r.job.line r.raises
  pub findings : (T : Recording) → IsTrace T → IsJobOf T r.job.line r.job.steps → AreLineFindings T r.job.line r.findings

-- ---- What is kept of a line while its findings are gathered step by step

abbrev pub flush_after : ℕ → ℕ → StepKind → ℕ
flush_after last n (Store addr len) = last
flush_after last n Flush = n
flush_after last n Clflush = n
flush_after last n Fence = last

-- The number of the last flush or clflush, or this one where there is none.
abbrev pub last_flush_of : ℕ → List Step → ℕ
last_flush_of last [] = last
last_flush_of last (s ∷ steps) = last_flush_of (flush_after last s.number s.kind) steps

-- What is known of line l at the end of the trace.
pub record IsEnding (T : Recording) (l : ℕ) (ending : Ending) : Type 0 where
  pub front : ending.front ≡ front_at T l (length T.events)
  pub flush : ending.flush ≡ last_flush l (history T (length T.events))

-- In whatever trace the job is of its line, and the line ends so, these are its findings.
abbrev pub FindsBefore : LineWork → Ending → List Finding → Type 0
FindsBefore job ending findings =
    (T : Recording) → IsTrace T → IsJobOf T job.line job.steps → IsEnding T job.line ending → AreLineFindings T job.line findings

abbrev pub found_if : Bool → Finding → List Finding
found_if b f = if b then f ∷ [] else []

-- The number stands in the list.
abbrev pub IsAmong : List ℕ → ℕ → Type 0
IsAmong numbers j = (k : ℕ) × (k < length numbers) × (slice_index numbers k ≡ j)

pub record IsNoneAbove (low : ℕ) (numbers : List ℕ) : Type 0 where
  pub none : (k : ℕ) → k < length numbers → slice_index numbers k ≤ low

-- The number is the least of the list that is above low.
pub record IsNextAbove (low : ℕ) (numbers : List ℕ) (next : ℕ) : Type 0 where
  pub above : low < next
  pub among : IsAmong numbers next
  pub least : (k : ℕ) → k < length numbers → low < slice_index numbers k → next ≤ slice_index numbers k

-- These are the numbers of the list that are above low, rising, each once.
pub record AreAbove (low : ℕ) (numbers above : List ℕ) : Type 0 where
  pub rising : IsRising low above
  pub just : (j : ℕ) → Has above j ↔ ((low < j) × IsAmong numbers j)

abbrev pub overwritten_by : ℕ → List ℕ → List Finding
overwritten_by later earlier = map (λ j. Overwritten j later) earlier

-- For each of the earlier stores after the last flush, it is added that the later one overwrites it.
pub record PushesOverwritten (old new : List Finding) (numbers : List ℕ) (flush later : ℕ) : Type 0 where
  pub above : List ℕ
  pub are_above : AreAbove flush numbers above
  pub pushed : new ≡ old ++ overwritten_by later above

-- A store after which the line has this count is never persisted, if the front ends below.
abbrev pub never_persisted_of : Ending → ℕ → ℕ → List Finding
never_persisted_of ending count n = found_if (nat_lt ending.front count) (NeverPersisted n (nat_lt n ending.flush))

-- The front or the mark of the thread counts all stores to the line already.
abbrev pub is_flush_covered : Line → ℕ → Bool
is_flush_covered line t = nat_le line.count (max line.front (unwrap_or (mark_in t line.marks) 0))

-- The last store to each byte from the address on.
abbrev pub AreStoresAt : List ℕ → ℕ → ℕ → List ℕ → Type 0
AreStoresAt table addr len numbers =
    (length numbers ≡ len) × ((k : ℕ) → k < len → slice_index numbers k ≡ slice_index table (addr % 256 + k))

-- What is found at a store is added.
pub record ReportsStore (scan : Scan) (ending : Ending) (n addr len : ℕ) (old new : List Finding) : Type 0 where
  pub numbers : List ℕ
  pub are_numbers : AreStoresAt scan.stores.numbers addr len numbers
  pub above : List ℕ
  pub are_above : AreAbove scan.flush numbers above
  pub pushed : new ≡ old ++ (overwritten_by n above ++ never_persisted_of ending (scan.state.count + 1) n)

-- What is found at event n, a step of this kind by thread t, is added.
abbrev pub ReportsKind : Scan → Ending → ℕ → ℕ → StepKind → List Finding → List Finding → Type 0
ReportsKind scan ending n t (Store addr len) old new = ReportsStore scan ending n addr len old new
ReportsKind scan ending n t Flush old new = new ≡ old ++ found_if (is_flush_covered scan.state t) (RedundantFlush n)
ReportsKind scan ending n t Clflush old new = new ≡ old ++ found_if (nat_le scan.state.count scan.state.front) (RedundantFlush n)
ReportsKind scan ending n t Fence old new = new ≡ old

abbrev pub Reports : Scan → Ending → Step → List Finding → List Finding → Type 0
Reports scan ending s old new = ReportsKind scan ending s.number s.thread s.kind old new

-- The table after a store by event n.
pub record StoresBytes (old new : List ℕ) (addr len n : ℕ) : Type 0 where
  pub inside : (k : ℕ) → addr % 256 ≤ k → k < addr % 256 + len → slice_index new k ≡ n
  pub outside : (k : ℕ) → (k < addr % 256) ⊎ (addr % 256 + len ≤ k) → slice_index new k ≡ slice_index old k

abbrev pub TakesBytes : List ℕ → List ℕ → ℕ → StepKind → Type 0
TakesBytes old new n (Store addr len) = StoresBytes old new addr len n
TakesBytes old new n Flush = new ≡ old
TakesBytes old new n Clflush = new ≡ old
TakesBytes old new n Fence = new ≡ old

-- ---- A trace taken apart: the jobs of its lines, the job of its fences, and what is kept while events come

-- The job is that of its line in the trace.
abbrev pub IsJob : Recording → LineWork → Type 0
IsJob T job = IsJobOf T job.line job.steps

-- And it has no step that does not matter to the line.
abbrev pub IsLeanJob : Recording → LineWork → Type 0
IsLeanJob T job = IsJob T job × EachTouches T job.line job.steps

abbrev pub line_in : LineWork → ℕ
line_in job = job.line

-- The trace taken apart: one job for each line that is stored or flushed, in order of first appearance, and the job of the
-- fences. Of the fences a line's job has only those that end an interval of their thread with a flush of that line.
pub record IsSplit (T : Recording) (lines : List LineWork) (fences : List Step) : Type 0 where
  pub covering : map line_in lines ≡ lines_of (history T (length T.events))
  pub jobs : AllByRecursion (IsLeanJob T) lines
  pub thread_job : IsThreadJobOf T fences

-- Of each thread the places of the lines that it has flushed since its last fence.
abbrev pub places_of : ℕ → List (List ℕ) → List ℕ
places_of t open_places = slice_index_or open_places t []

abbrev pub with_place : ℕ → ℕ → List (List ℕ) → List (List ℕ)
with_place t place open_places = slice_set open_places t (places_of t open_places ++ place ∷ [])

-- A place stands in a thread's list where the thread has a mark on the line of the job there, after the history.
abbrev pub OpenEach : List Act → List LineWork → List (List ℕ) → Type 0
OpenEach h lines open_places =
    (t place : ℕ) (d : LineWork) → place < length lines →
    (has_line place (places_of t open_places) ≡ true) ↔ (open_mark t (slice_index_or lines place d).line h ≢ None)

abbrev pub ArePlaces : List LineWork → List (List ℕ) → Type 0
ArePlaces lines open_places = (t : ℕ) → All (λ place. place < length lines) (places_of t open_places)

-- What is kept while events come, T being those so far.
pub record IsSplitting (T : Recording) (keys : List ℕ) (lines : List LineWork) (open_places : List (List ℕ)) (fences : List Step) : Type 0 where
  pub known : keys ≡ lines_of (history T (length T.events))
  pub line_each : map line_in lines ≡ keys
  pub job_each : All (IsLeanJob T) lines
  pub threads : length open_places ≡ 256
  pub open_each : OpenEach (history T (length T.events)) lines open_places
  pub placed : ArePlaces lines open_places
  pub thread_job : IsThreadJobOf T fences

-- The jobs, with an empty one for the line if it has none yet.
abbrev pub with_job : ℕ → List ℕ → List LineWork → List LineWork
with_job l keys lines = if has_line l keys then lines else lines ++ record { line = l; steps = [] } ∷ []

-- The step is added to the job of line l, which stands at this place.
pub record TakesOnLine (l : ℕ) (s : Step) (place : ℕ) (old_keys new_keys : List ℕ) (old new : List LineWork) : Type 0 where
  pub keys : new_keys ≡ with_line l old_keys
  pub within : place < length (with_job l old_keys old)
  pub here : (d : LineWork) → (slice_index_or (with_job l old_keys old) place d).line ≡ l
  pub apart : (k : ℕ) (d : LineWork) → k < length (with_job l old_keys old) → k ≢ place → (slice_index_or (with_job l old_keys old) k d).line ≢ l
  pub added : (d : LineWork) → new ≡ slice_set (with_job l old_keys old) place (with_step (slice_index_or (with_job l old_keys old) place d) s)

-- All steps come before this number.
abbrev pub EndBefore : ℕ → List LineWork → Type 0
EndBefore n lines = All (λ job. last_number 0 job.steps < n) lines

-- The step is added once to each job at one of the places.
pub record EndsAt (places : List ℕ) (s : Step) (old new : List LineWork) : Type 0 where
  pub same_length : length new ≡ length old
  pub each : (k : ℕ) (d : LineWork) → k < length old →
      slice_index_or new k d ≡ (if has_line k places then with_step (slice_index_or old k d) s else slice_index_or old k d)

-- The act is the store to line l, or the clflush of it, that the kind of step tells.
abbrev pub IsAccess : ℕ → StepKind → Act → Type 0
IsAccess l (Store addr len) a = (w : Written) × (a ≡ Stores l w) × (w.addr ≡ addr) × (length w.bytes ≡ len)
IsAccess l Flush a = ⊥
IsAccess l Clflush a = a ≡ Clflushes l
IsAccess l Fence a = ⊥
