-- The two assertions (own profile; their names are PMTest's).
use Rattle.std.specs.Prelude.{◌≡◌, ℕ, suc, ◌+◌, ◌<◌, ◌≤◌, if◌then◌else◌, List, [], ◌∷◌, Option, Some, None, IfSome, IsSomeAnd, ◌⊎◌}
use Rattle.pmt_model.specs.Values.{Span}
use Rattle.pmt_model.specs.Machine.{Act, Stores, Flushes, Clflushes, Fences, Asserts, count, writes, State, Ends, IsMoment}
use Rattle.pmt_model.specs.Fronts.{front}
use Rattle.pmt_model.specs.Traces.{history}

-- A store, by its line and its number among the stores to the line.
pub record Placed : Type 0 where
  pub line : ℕ
  pub rank : ℕ

-- The last store of the history that writes the byte at b.
abbrev pub last_store : ℕ → List Act → Option Placed
last_store b [] = None
last_store b (Stores l w ∷ history) = if writes w b then Some (record { line = l; rank = suc (count l history) }) else last_store b history
last_store b (Flushes t l ∷ history) = last_store b history
last_store b (Clflushes l ∷ history) = last_store b history
last_store b (Fences t ∷ history) = last_store b history
last_store b (Asserts ∷ history) = last_store b history

abbrev pub IsPersisted : (ℕ → ℕ) → Placed → Type 0
IsPersisted persisted store = store.rank ≤ persisted store.line

abbrev pub InSpan : Span → ℕ → Type 0
InSpan A b = (A.addr ≤ b) × (b < A.addr + A.len)

-- The last store of the history to each byte of A that has one is persisted.
abbrev pub AllPersisted : List Act → (ℕ → ℕ) → Span → Type 0
AllPersisted history persisted A = (a : ℕ) → InSpan A a → IfSome (last_store a history) (IsPersisted persisted)

-- isPersist A, after this history: so it is at the end of every run.
abbrev pub PersistPasses : List Act → Span → Type 0
PersistPasses history A = (s : State) → Ends history s → AllPersisted history s.persisted A

-- isOrderedBefore A B, after this history: at every moment of every run, where the last store to some byte of B is persisted,
-- so is the last store to each byte of A. A store that has not come yet is not persisted, since no more stores of a line are
-- persisted than have come.
abbrev pub OrderedPasses : List Act → Span → Span → Type 0
OrderedPasses history A B =
    (s : State) → IsMoment history s → (b : ℕ) → InSpan B b → IsSomeAnd (last_store b history) (IsPersisted s.persisted) →
    AllPersisted history s.persisted A

-- The history up to and with the last store that writes the byte at b.
abbrev pub up_to_last : ℕ → List Act → List Act
up_to_last b [] = []
up_to_last b (Stores l w ∷ history) = if writes w b then Stores l w ∷ history else up_to_last b history
up_to_last b (Flushes t l ∷ history) = up_to_last b history
up_to_last b (Clflushes l ∷ history) = up_to_last b history
up_to_last b (Fences t ∷ history) = up_to_last b history
up_to_last b (Asserts ∷ history) = up_to_last b history

-- Store x persists no later than y, h being the history up to y.
abbrev pub NoLater : List Act → Placed → Placed → Type 0
NoLater h x y = ((x.line ≡ y.line) × (x.rank ≤ y.rank)) ⊎ (x.rank ≤ front x.line h)
