-- The last stores to the bytes of a range, and to bytes by blocks of 64 neighbours.
use Rattle.std.specs.Prelude.{◌≡◌, ℕ, ◌+◌, ◌<◌, Bool, false, List, length, slice_index, unwrap_or, ◌≢◌, ◌*◌, ◌/◌, ◌%◌, ◌⊎◌, if◌then◌else◌, get_or, nat_eq}
use Rattle.pmt_laws.specs.Prelude.{Op, Store, Clwb, ClflushOpt, Clflush, Sfence, Mfence, IsPersist, IsOrderedBefore, Span, writes, Recording, history, last_store_number, Written, IsStore, IsDistinct}
use Rattle.pmt_tables.specs.Slots.{IsSlotOf}
use Rattle.pmt_tables.specs.Lasts.{last_at}
use Rattle.pmt_explain.specs.declared.blocks.Blocks.{Blocks}
use Rattle.pmt_explain.specs.declared.blocks.Stores.{Stores}

-- Of each byte from `first` on, the number of the last one of the first n events that stores to it, or 0.
abbrev pub AreLastStores : Recording → ℕ → ℕ → List ℕ → Type 0
AreLastStores T first n last = (k : ℕ) → k < length last → slice_index last k ≡ unwrap_or (last_store_number (first + k) (history T n)) 0

-- The list has the last stores to the bytes of A.
pub record AreLastIn (T : Recording) (i : ℕ) (A : Span) (last : List ℕ) : Type 0 where
  pub size : length last ≡ A.len
  pub each : AreLastStores T A.addr i last

-- The op stores to the byte at b.
abbrev pub written_by : Op → ℕ → Bool
written_by (Store w) b = writes w b
written_by (Clwb a) b = false
written_by (ClflushOpt a) b = false
written_by (Clflush a) b = false
written_by Sfence b = false
written_by Mfence b = false
written_by (IsPersist r) b = false
written_by (IsOrderedBefore r q) b = false

-- ---- The last stores to bytes, by blocks of 64 neighbours

-- Each block stands once, and has eight words, and a first and a last store.
pub record AreBlocks (t : Blocks) : Type 0 where
  pub once : IsDistinct nat_eq t.places
  pub stores : length t.stores.items ≡ length t.places
  pub words : length t.words ≡ length t.places * 8

-- What the block at place p has of the byte at b.
abbrev pub byte_at : List (List ℕ) → ℕ → ℕ → ℕ
byte_at words p b = last_at words (p * 8 + b / 8 % 8) (b % 8)

-- The last store to the byte at b is x, which is 0 where there is none.
abbrev pub Tells : Blocks → ℕ → ℕ → Type 0
Tells t b x = ((p : ℕ) × IsSlotOf (b / 64) p t.places × (byte_at t.words p b ≡ x)) ⊎ (((p : ℕ) → IsSlotOf (b / 64) p t.places → ⊥) × (x ≡ 0))

-- The first and the last store to the block at place p.
abbrev pub stores_at : Blocks → ℕ → Stores
stores_at t p = get_or t.stores.items p (record { first = 0; last = 0 })

-- Block k stands at place p among both, with the same first store.
pub record IsKept (k p : ℕ) (old new : Blocks) : Type 0 where
  pub before : IsSlotOf k p old.places
  pub first : (stores_at new p).first ≡ (stores_at old p).first

-- Block k is new, with m as its first store.
pub record IsAdded (k p m : ℕ) (old new : Blocks) : Type 0 where
  pub none : (q : ℕ) → IsSlotOf k q old.places → ⊥
  pub first : (stores_at new p).first ≡ m

-- The block stands at this place, where it is new with store m as its first one, and nothing else is told than before.
pub record Opens (block m place : ℕ) (old new : Blocks) : Type 0 where
  pub are : AreBlocks new
  pub here : IsSlotOf block place new.places
  pub small : place < 4294967296
  pub told : (b x : ℕ) → Tells old b x → Tells new b x
  pub stores : (k p : ℕ) → IsSlotOf k p new.places → (IsKept k p old new × ((stores_at new p).last ≡ (stores_at old p).last)) ⊎ ((k ≡ block) × IsAdded k p m old new)

-- The bytes of the store have it as their last one, and the others what they had; so has its block, and it as its first one if it is
-- new.
pub record Notes (w : Written) (m : ℕ) (old new : Blocks) : Type 0 where
  pub is_store : IsStore w
  pub are : AreBlocks new
  pub told : (b x : ℕ) → Tells old b x → Tells new b (if writes w b then m else x)
  pub own : (p : ℕ) → IsSlotOf (w.addr / 64) p new.places → ((stores_at new p).last ≡ m) × (IsKept (w.addr / 64) p old new ⊎ IsAdded (w.addr / 64) p m old new)
  pub others : (k p : ℕ) → k ≢ w.addr / 64 → IsSlotOf k p new.places → IsKept k p old new × ((stores_at new p).last ≡ (stores_at old p).last)
