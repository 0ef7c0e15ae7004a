-- The flushes that wait for a fence, what it does to their lines, and which are kept.
use Rattle.std.specs.Prelude.{◌≡◌, ◌≢◌, ℕ, suc, ◌-◌, ◌<◌, ◌↔◌, ◌==◌, nat_lt, true, if◌then◌else◌, List, [], ◌∷◌, ◌++◌, length, take, slice_index_or, All, map, ◌≤◌, ◌⊎◌, ◌||◌, Bool, false}
use Rattle.pmt_laws.specs.Prelude.{Act, Stores, Flushes, Clflushes, Fences, Asserts, with_line, Written, Recording, IsAct, history, IsKept}
use Rattle.pmt_safety.specs.Safety.{last_line_store, safe_store, has_open_flush, safe_store_at}
use Rattle.pmt_rows.specs.Known.{raised, AreLinked, IsKnownWith}
use Rattle.pmt_rows.specs.declared.open.OpenFlush.{OpenFlush}
use Rattle.pmt_rows.specs.declared.rows.Rows.{Rows}

-- A flush by its number, with its line and the last store to that when it came, or 0.
pub record Waiting : Type 0 where
  pub number : ℕ
  pub line : ℕ
  pub store : ℕ

-- The flushes by thread t since its last fence, the oldest first, where this tells the last store to a line.
abbrev pub waiting_by : (ℕ → List Act → ℕ) → ℕ → List Act → List Waiting
waiting_by last t [] = []
waiting_by last t (Stores l w ∷ history) = waiting_by last t history
waiting_by last t (Flushes u l ∷ history) =
    if u == t then waiting_by last t history ++ record { number = suc (length history); line = l; store = last l history } ∷ [] else waiting_by last t history
waiting_by last t (Clflushes l ∷ history) = waiting_by last t history
waiting_by last t (Fences u ∷ history) = if u == t then [] else waiting_by last t history
waiting_by last t (Asserts ∷ history) = waiting_by last t history

-- By the numbers of stores.
abbrev pub waiting : ℕ → List Act → List Waiting
waiting t h = waiting_by last_line_store t h

-- One of them takes the last safe store of its line to the store that it marks, where that is later.
abbrev pub raise_one : Waiting → (ℕ → ℕ) → ℕ → ℕ
raise_one w safe = if nat_lt (safe w.line) w.store then raised w.line w.store safe else safe

-- All of them do, from the newest to the oldest.
abbrev pub raise_all : List Waiting → (ℕ → ℕ) → ℕ → ℕ
raise_all [] safe = safe
raise_all (w ∷ ws) safe = raise_one w (raise_all ws safe)

abbrev pub FenceRaises : Type 0
FenceRaises = (t l : ℕ) (h : List Act) → raise_all (waiting t h) (λ k. safe_store k h) l ≡ safe_store l (Fences t ∷ h)

abbrev pub OpenTells : Type 0
OpenTells = (t : ℕ) (h : List Act) → (has_open_flush t h ≡ true) ↔ (waiting t h ≢ [])

-- The list of thread t.
abbrev pub list_at : ℕ → List (List OpenFlush) → List OpenFlush
list_at t lists = slice_index_or lists t []

-- The flush, whose line stands at its slot among these.
abbrev pub waits : List ℕ → OpenFlush → Waiting
waits lines f = record { number = f.number; line = slice_index_or lines f.slot 0; store = f.store }

-- The lists are those of the flushes that wait, each with the slot of its line among these lines.
pub record AreWaitingBy (last : ℕ → List Act → ℕ) (lines : List ℕ) (h : List Act) (lists : List (List OpenFlush)) : Type 0 where
  pub each : (t : ℕ) → map (waits lines) (list_at t lists) ≡ waiting_by last t h
  pub within : (t : ℕ) → All (λ f. f.slot < length lines) (list_at t lists)

abbrev pub AreWaiting : List ℕ → List Act → List (List OpenFlush) → Type 0
AreWaiting lines h lists = AreWaitingBy last_line_store lines h lists

-- The list of thread t lacks its last flush now, and the others are as they were.
pub record LacksLast (t : ℕ) (old new : List (List OpenFlush)) : Type 0 where
  pub own : list_at t new ≡ take (length (list_at t old) - 1) (list_at t old)
  pub others : (u : ℕ) → u ≢ t → list_at u new ≡ list_at u old

-- None before the first act. One more line changes none. A flush is one more of its thread, which can be taken back, a fence takes its
-- thread's away, and other acts leave all.
pub record WaitsOn (last : ℕ → List Act → ℕ) : Type 0 where
  pub none : (lines : List ℕ) → AreWaitingBy last lines [] []
  pub line : (l : ℕ) (lines : List ℕ) (h : List Act) (lists : List (List OpenFlush)) → AreWaitingBy last lines h lists → AreWaitingBy last (with_line l lines) h lists
  pub flush : (lines : List ℕ) (t l : ℕ) (h : List Act) (f : OpenFlush) (old new : List (List OpenFlush)) → f.slot < length lines → slice_index_or lines f.slot 0 ≡ l → f.number ≡ suc (length h) → f.store ≡ last l h →
      list_at t new ≡ list_at t old ++ f ∷ [] → ((u : ℕ) → u ≢ t → list_at u new ≡ list_at u old) → AreWaitingBy last lines h old → AreWaitingBy last lines (Flushes t l ∷ h) new
  pub back : (lines : List ℕ) (t l : ℕ) (h : List Act) (old new : List (List OpenFlush)) → LacksLast t old new → AreWaitingBy last lines (Flushes t l ∷ h) old → AreWaitingBy last lines h new
  pub fence : (lines : List ℕ) (t : ℕ) (h : List Act) (old new : List (List OpenFlush)) → list_at t new ≡ [] → ((u : ℕ) → u ≢ t → list_at u new ≡ list_at u old) → AreWaitingBy last lines h old →
      AreWaitingBy last lines (Fences t ∷ h) new
  pub others : (lines : List ℕ) (h : List Act) (lists : List (List OpenFlush)) (a : Act) → ((t l : ℕ) → a ≡ Flushes t l → ⊥) → ((t : ℕ) → a ≡ Fences t → ⊥) → AreWaitingBy last lines h lists →
      AreWaitingBy last lines (a ∷ h) lists

-- ---- What a fence does to the lines that its thread has flushed

-- Event n + 1 is a fence that is under way: `safe` has the last safe store of each line so far, as the rows and the entries tell it.
pub record IsAtFence (T : Recording) (lines : List ℕ) (n : ℕ) (safe : ℕ → ℕ) (r : Rows) (xs : List ℕ) : Type 0 where
  pub rows : IsKnownWith lines (history T n) safe r
  pub entries : AreLinked T n safe xs
  pub above : (l : ℕ) → safe_store_at T l n ≤ safe l

-- The flush marks a store to its line, or 0, which is safe after the fence.
pub record IsRaisable (T : Recording) (lines : List ℕ) (n : ℕ) (f : OpenFlush) : Type 0 where
  pub within : f.slot < length lines
  pub store : (f.store ≡ 0) ⊎ ((w : Written) × IsAct T f.store (Stores (slice_index_or lines f.slot 0) w))
  pub by_now : f.store ≤ n
  pub later : f.store ≤ safe_store_at T (slice_index_or lines f.slot 0) (suc n)

-- Flushes wait for a fence that is the event with this number.
pub record AreAtFence (T : Recording) (lines : List ℕ) (n number : ℕ) (safe : ℕ → ℕ) (r : Rows) (xs : List ℕ) (flushes : List OpenFlush) : Type 0 where
  pub numbered : number ≡ suc n
  pub at : IsAtFence T lines n safe r xs
  pub each : All (IsRaisable T lines n) flushes

abbrev pub waits_all : List ℕ → List OpenFlush → List Waiting
waits_all lines flushes = map (waits lines) flushes

-- Whether one of them takes the last safe store of its line to a later one, from the newest to the oldest.
abbrev pub some_raises : List Waiting → (ℕ → ℕ) → Bool
some_raises [] safe = false
some_raises (w ∷ ws) safe = nat_lt (raise_all ws safe w.line) w.store || some_raises ws safe

-- The numbers of those that do.
abbrev pub raisers : List Waiting → (ℕ → ℕ) → List ℕ
raisers [] safe = []
raisers (w ∷ ws) safe = if nat_lt (raise_all ws safe w.line) w.store then w.number ∷ raisers ws safe else raisers ws safe

-- Of the flushes that wait for a fence, those are kept that take the last safe store of their line to a later one, from the newest to the
-- oldest.
abbrev pub KeptByRaise : Type 0
KeptByRaise =
    (T : Recording) (t n : ℕ) (older newer : List Waiting) (w : Waiting) → IsAct T (suc n) (Fences t) → waiting t (history T n) ≡ older ++ w ∷ newer →
    IsKept T w.number ↔ (raise_all newer (λ l. safe_store_at T l n) w.line < w.store)

-- The fence is kept exactly where one of them does so.
abbrev pub FenceKeptByRaise : Type 0
FenceKeptByRaise = (T : Recording) (t n : ℕ) → IsAct T (suc n) (Fences t) → (some_raises (waiting t (history T n)) (λ l. safe_store_at T l n) ≡ true) ↔ IsKept T (suc n)
