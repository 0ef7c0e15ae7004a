-- What is known of a trace while its events come: whether an event is kept is decided once it has come and, where it is a flush, once
-- its thread has fenced.
use Rattle.std.specs.Prelude.{◌≡◌, ℕ, suc, ◌<◌, ◌≤◌, ◌↔◌, ◌==◌, max, if◌then◌else◌, List, [], ◌∷◌, ◌++◌, length}
use Rattle.pmt_laws.specs.Prelude.{Event, Act, Stores, Flushes, Clflushes, Fences, Asserts, count, with_events, Recording, IsAct, history, count_at, front, front_at, IsKept}

-- Event k is a flush (no clflush) whose thread has not fenced since.
pub record IsOpenFlush (T : Recording) (k : ℕ) : Type 0 where
  pub thread : ℕ
  pub line : ℕ
  pub is_flush : IsAct T k (Flushes thread line)
  pub unfenced : (j : ℕ) → k < j → ¬ IsAct T j (Fences thread)

-- Event k has come and, if it is a flush, its thread has fenced since.
pub record IsDecided (T : Recording) (k : ℕ) : Type 0 where
  pub by_now : k ≤ length T.events
  pub fenced : (t l : ℕ) → IsAct T k (Flushes t l) → (j : ℕ) × (k < j) × IsAct T j (Fences t)

-- Whatever events follow, what is decided stays as it is.
abbrev pub DecidedStays : Type 0
DecidedStays =
    (T : Recording) (more : List Event) (k : ℕ) → IsDecided T k → IsDecided (with_events T more) k × (IsKept T k ↔ IsKept (with_events T more) k)

-- An event that has come is decided, or it is an open flush; and not both.
pub record DecidedOrOpen : Type 0 where
  pub either : (T : Recording) (k : ℕ) → k ≤ length T.events → ¬ IsDecided T k → IsOpenFlush T k
  pub not_both : (T : Recording) (k : ℕ) → IsOpenFlush T k → ¬ IsDecided T k

-- If the trace ends, its open flushes are not kept.
abbrev pub OpenIsDropped : Type 0
OpenIsDropped = (T : Recording) (k : ℕ) → IsOpenFlush T k → ¬ IsKept T k

-- A flush by its number, with its line and the number of stores to it so far.
pub record Flushed : Type 0 where
  pub number : ℕ
  pub line : ℕ
  pub stores : ℕ

-- The flushes by thread t since its last fence, the oldest first.
abbrev pub open_flushes : ℕ → List Act → List Flushed
open_flushes t [] = []
open_flushes t (Stores l w ∷ history) = open_flushes t history
open_flushes t (Flushes u l ∷ history) =
    if u == t then open_flushes t history ++ record { number = suc (length history); line = l; stores = count l history } ∷ [] else open_flushes t history
open_flushes t (Clflushes l ∷ history) = open_flushes t history
open_flushes t (Fences u ∷ history) = if u == t then [] else open_flushes t history
open_flushes t (Asserts ∷ history) = open_flushes t history

-- The greatest number of stores to line l that one of the flushes covers, or 0.
abbrev pub most : ℕ → List Flushed → ℕ
most l [] = 0
most l (f ∷ flushes) = if f.line == l then max f.stores (most l flushes) else most l flushes

-- A fence raises the front of a line to the most that an open flush of its thread covers.
abbrev pub FenceRaises : Type 0
FenceRaises = (t l : ℕ) (history : List Act) → front l (Fences t ∷ history) ≡ max (front l history) (most l (open_flushes t history))

-- Of its open flushes, those are kept that cover more than the front just before the fence and than each newer one.
abbrev pub FenceDecides : Type 0
FenceDecides =
    (T : Recording) (t n : ℕ) (older newer : List Flushed) (f : Flushed) → IsAct T (suc n) (Fences t) → open_flushes t (history T n) ≡ older ++ f ∷ newer →
    IsKept T f.number ↔ (max (front_at T f.line n) (most f.line newer) < f.stores)

-- A fence is kept exactly if the front of some line rises.
abbrev pub FenceIsKept : Type 0
FenceIsKept = (T : Recording) (t n : ℕ) → IsAct T (suc n) (Fences t) → IsKept T (suc n) ↔ ((l : ℕ) × (front_at T l n < front_at T l (suc n)))

-- A clflush is kept exactly if the front of its line is below the count just before it.
abbrev pub ClflushIsKept : Type 0
ClflushIsKept = (T : Recording) (l n : ℕ) → IsAct T (suc n) (Clflushes l) → IsKept T (suc n) ↔ (front_at T l n < count_at T l n)
