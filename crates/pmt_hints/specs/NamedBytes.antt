-- Bytes that assertions name, by blocks of 64 neighbours.
use Rattle.std.specs.Prelude.{◌≡◌, ℕ, ◌+◌, ◌*◌, ◌/◌, ◌%◌, ◌^◌, ◌<◌, ◌≤◌, ◌⊎◌, ◌↔◌, Bool, true, false, List, length, get_or, nat_eq}
use Rattle.pmt_laws.specs.Prelude.{IsDistinct, Written, writes}
use Rattle.pmt_tables.specs.Slots.{IsSlotOf}
use Rattle.pmt_hints.specs.declared.named_bytes.NamedBytes.{NamedBytes}

-- Each block stands once, and has 64 flags, all of which are set if it is known to be whole.
pub record AreNamedBytes (t : NamedBytes) : Type 0 where
  pub once : IsDistinct nat_eq t.blocks
  pub flags : length t.flags.items ≡ length t.blocks * 64
  pub whole : length t.whole.items ≡ length t.blocks
  pub full : (p k : ℕ) → k < 64 → get_or t.whole.items p false ≡ true → get_or t.flags.items (p * 64 + k) false ≡ true

-- The byte at b is one of them.
abbrev pub HasByte : NamedBytes → ℕ → Type 0
HasByte t b = (p : ℕ) × IsSlotOf (b / 64) p t.blocks × (get_or t.flags.items (p * 64 + b % 64) false ≡ true)

-- The block stands at this place, and the bytes are the same.
pub record Opens (block place : ℕ) (old new : NamedBytes) : Type 0 where
  pub are : AreNamedBytes new
  pub here : IsSlotOf block place new.blocks
  pub small : place < 2 ^ 32
  pub told : (b : ℕ) → HasByte new b ↔ HasByte old b

-- The bytes with the property are added.
pub record Adds (P : ℕ → Type 0) (old new : NamedBytes) : Type 0 where
  pub are : AreNamedBytes new
  pub told : (b : ℕ) → HasByte new b ↔ (HasByte old b ⊎ P b)

-- The bytes of the store are taken out; is_any tells whether one of them was in.
pub record Takes (w : Written) (old : NamedBytes) (is_any : Bool) (new : NamedBytes) : Type 0 where
  pub are : AreNamedBytes new
  pub any : (is_any ≡ true) ↔ ((b : ℕ) × (writes w b ≡ true) × HasByte old b)
  pub told : (b : ℕ) → HasByte new b ↔ (HasByte old b × (writes w b ≡ false))

-- The flags from low up to high have this value, and the others what they had.
pub record IsFilled (value : Bool) (low high : ℕ) (old new : List Bool) : Type 0 where
  pub size : length new ≡ length old
  pub inside : (k : ℕ) → low ≤ k → k < high → get_or new k false ≡ value
  pub outside : (k : ℕ) → (k < low) ⊎ (high ≤ k) → get_or new k false ≡ get_or old k false
