-- The last stores to bytes, as of a place.
use Rattle.std.specs.Prelude.{◌≡◌, ℕ, ◌+◌, ◌/◌, ◌<◌, ◌≤◌, ◌⊎◌, length}
use Rattle.pmt_laws.specs.Prelude.{Op, Store, Clwb, ClflushOpt, Clflush, Sfence, Mfence, IsPersist, IsOrderedBefore, Span, Written, Stores, Recording, IsAct}
use Rattle.pmt_tables.specs.Slots.{IsSlotOf}
use Rattle.pmt_tables.specs.Lasts.{last_number}
use Rattle.pmt_explain.specs.declared.blocks.Blocks.{Blocks}
use Rattle.pmt_explain.specs.declared.blocks.Stores.{Stores as BlockStores}
use Rattle.pmt_explain.specs.declared.last_writers.LastWriters.{LastWriters}
use Rattle.pmt_explain.specs.LastStores.{AreBlocks, Notes, stores_at, Tells}

-- Store x is to block k.
pub record IsStoreTo (T : Recording) (k x : ℕ) : Type 0 where
  pub line : ℕ
  pub what : Written
  pub is_store : IsAct T x (Stores line what)
  pub near : what.addr / 64 ≡ k

-- Of the first n events these are the first and the last store to block k that were noted: none of the last stores to its bytes from
-- low to high is earlier or later.
pub record AreStores (T : Recording) (n low high k : ℕ) (s : BlockStores) : Type 0 where
  pub is_last : IsStoreTo T k s.last
  pub some : 0 < s.first
  pub order : s.first ≤ s.last
  pub by_now : s.last ≤ n
  pub each : (b : ℕ) → b / 64 ≡ k → low ≤ b → b < high → (last_number T n b ≡ 0) ⊎ ((s.first ≤ last_number T n b) × (last_number T n b ≤ s.last))

-- The blocks tell the last one of the first n events that writes each byte from low to high.
pub record AreWritten (T : Recording) (n low high : ℕ) (t : Blocks) : Type 0 where
  pub are : AreBlocks t
  pub each : (b : ℕ) → low ≤ b → b < high → Tells t b (last_number T n b)
  pub stores : (k p : ℕ) → IsSlotOf k p t.places → AreStores T n low high k (stores_at t p)

pub record AreWriters (T : Recording) (w : LastWriters) : Type 0 where
  pub within : w.place ≤ length T.events
  pub written : AreWritten T w.place w.low w.high w.blocks

-- They are those of the first i events, and tell of all bytes of A.
pub record Knows (T : Recording) (i : ℕ) (A : Span) (w : LastWriters) : Type 0 where
  pub writers : AreWriters T w
  pub place : w.place ≡ i
  pub low : w.low ≤ A.addr
  pub high : A.addr + A.len ≤ w.high

-- The op with number m is noted, if it is a store to a byte from low to high.
abbrev pub NotesOp : Op → ℕ → ℕ → ℕ → Blocks → Blocks → Type 0
NotesOp (Store w) m low high old new = (((w.addr + length w.bytes ≤ low) ⊎ (high ≤ w.addr)) × (new ≡ old)) ⊎ Notes w m old new
NotesOp (Clwb a) m low high old new = new ≡ old
NotesOp (ClflushOpt a) m low high old new = new ≡ old
NotesOp (Clflush a) m low high old new = new ≡ old
NotesOp Sfence m low high old new = new ≡ old
NotesOp Mfence m low high old new = new ≡ old
NotesOp (IsPersist A) m low high old new = new ≡ old
NotesOp (IsOrderedBefore A B) m low high old new = new ≡ old
