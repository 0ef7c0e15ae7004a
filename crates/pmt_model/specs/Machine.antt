-- The machine: what persistent memory may do with the events of a trace, and what a crash leaves.
use Rattle.std.specs.Prelude.{◌≡◌, ℕ, suc, ◌-◌, ◌<◌, ◌≤◌, ◌==◌, ◌&&◌, nat_lt, nat_le, Bool, if◌then◌else◌, List, [], ◌∷◌, length, Option, None, slice_get}
use Rattle.std.specs.List.{AllByRecursion}
use Rattle.pmt_model.specs.Values.{Written}

-- What an event is to the machine (own profile: which ops are which).
pub data Act : Type 0 where
  Stores : (line : ℕ) (what : Written) → Act
  Flushes : (thread : ℕ) (line : ℕ) → Act
  Clflushes : (line : ℕ) → Act
  Fences : (thread : ℕ) → Act
  Asserts : Act

-- The number of stores to line l. Every list of acts here is a history: its newest act stands first.
abbrev pub count : ℕ → List Act → ℕ
count l [] = 0
count l (Stores k w ∷ history) = if k == l then suc (count l history) else count l history
count l (Flushes t k ∷ history) = count l history
count l (Clflushes k ∷ history) = count l history
count l (Fences t ∷ history) = count l history
count l (Asserts ∷ history) = count l history

-- A flush whose completion a fence by its thread waits for: that many stores to the line are then persisted.
pub record Outstanding : Type 0 where
  pub thread : ℕ
  pub line : ℕ
  pub stores : ℕ

-- What the memory and the threads hold at a moment: the events so far, of each line how many of its stores are persisted,
-- the oldest first (own profile: the stores of one line persist in their order), and the flushes so far.
pub record State : Type 0 where
  pub history : List Act
  pub persisted : ℕ → ℕ
  pub outstanding : List Outstanding

abbrev pub start : State
start = record { history = []; persisted = λ _. 0; outstanding = [] }

-- The act may come next. A fence waits for the flushes of its thread alone (Intel SDM, SFENCE, MFENCE, CLWB, CLFLUSHOPT), a
-- clflush for the stores to its line (Intel SDM, CLFLUSH), and nothing else waits.
abbrev pub Allows : State → Act → Type 0
Allows s (Stores l w) = Unit {0}
Allows s (Flushes t l) = Unit {0}
Allows s (Clflushes l) = s.persisted l ≡ count l s.history
Allows s (Fences t) = AllByRecursion (λ o. o.thread ≡ t → o.stores ≤ s.persisted o.line) s.outstanding
Allows s Asserts = Unit {0}

-- What is outstanding once the act has come: a flush marks the stores to its line so far, of every thread (Intel SDM, CLWB,
-- CLFLUSHOPT).
abbrev pub outstanding_after : State → Act → List Outstanding
outstanding_after s (Stores l w) = s.outstanding
outstanding_after s (Flushes t l) = record { thread = t; line = l; stores = count l s.history } ∷ s.outstanding
outstanding_after s (Clflushes l) = s.outstanding
outstanding_after s (Fences t) = s.outstanding
outstanding_after s Asserts = s.outstanding

abbrev pub after : State → Act → State
after s a = record { history = a ∷ s.history; persisted = s.persisted; outstanding = outstanding_after s a }

-- The oldest pending store of line l persists, unasked (own profile: the cache may write a line back at any moment).
abbrev pub after_persist : State → ℕ → State
after_persist s l = record { history = s.history; persisted = λ k. if k == l then suc (s.persisted k) else s.persisted k; outstanding = s.outstanding }

-- Steps that lead from one state to another: acts that may come, and silent persist steps.
pub data Leads (from : State) : State → Type 0 where
  Stays : Leads from from
  Acts : {to : State} (a : Act) → Leads from to → Allows to a → Leads from (after to a)
  Persists : {to : State} (l : ℕ) → Leads from to → to.persisted l < count l to.history → Leads from (after_persist to l)

-- A run of the history ends in this state.
abbrev pub Ends : List Act → State → Type 0
Ends history s = Leads start s × (s.history ≡ history)

-- The state is a moment of a run of the history: its first state, or the one after any of its steps.
abbrev pub IsMoment : List Act → State → Type 0
IsMoment history s = (end : State) × Leads start s × Leads s end × (end.history ≡ history)

-- Memory after a crash: the byte at each address, if one was written.
abbrev pub Image : Type 0
Image = ℕ → Option ℕ

-- The store writes the byte at the address.
abbrev pub writes : Written → ℕ → Bool
writes w a = nat_le w.addr a && nat_lt (a - w.addr) (length w.bytes)

abbrev pub write : Written → Image → Image
write w image a = if writes w a then slice_get w.bytes (a - w.addr) else image a

-- The stores of the history that are persisted, written in their order.
abbrev pub image_of : (ℕ → ℕ) → List Act → Image
image_of persisted [] a = None
image_of persisted (Stores l w ∷ history) a =
    if nat_lt (count l history) (persisted l) then write w (image_of persisted history) a else image_of persisted history a
image_of persisted (Flushes t l ∷ history) a = image_of persisted history a
image_of persisted (Clflushes l ∷ history) a = image_of persisted history a
image_of persisted (Fences t ∷ history) a = image_of persisted history a
image_of persisted (Asserts ∷ history) a = image_of persisted history a

-- A crash after the history may leave this image.
abbrev pub Crash : List Act → Image → Type 0
Crash history image = (s : State) × Ends history s × ((a : ℕ) → image_of s.persisted s.history a ≡ image a)

-- A crash after the history may leave these counts of persisted stores, by line.
abbrev pub Vectors : List Act → (ℕ → ℕ) → Type 0
Vectors history v = (s : State) × Ends history s × ((l : ℕ) → s.persisted l ≡ v l)
