-- What is known once the events after a place were met, from a later place back.
use Rattle.std.specs.Prelude.{◌≡◌, ℕ, ◌+◌, ◌*◌, ◌<◌, ◌≤◌, ◌↔◌, Bool, true, false, List, length, nat_eq, slice_index_or}
use Rattle.pmt_laws.specs.Prelude.{Flushes, Fences, Recording, IsAct, list_any}
use Rattle.pmt_explain.specs.Following.{IsCompleteBy}
use Rattle.pmt_tables.specs.Flags.{is_kept_at}
use Rattle.pmt_part_laws.specs.Parts.{IsCarried}
use Rattle.pmt_parts.specs.declared.later.Later.{Later}

-- Some event after event m up to event n has the property.
abbrev pub Since : (ℕ → Type 0) → ℕ → ℕ → Type 0
Since P m n = (k : ℕ) × (m < k) × (k ≤ n) × P k

-- Event k is a flush of line l by thread t, which does not fence after it up to event n.
pub record IsOpenAt (T : Recording) (t l n k : ℕ) : Type 0 where
  pub is_flush : IsAct T k (Flushes t l)
  pub unfenced : (j : ℕ) → k < j → j ≤ n → ¬ IsAct T j (Fences t)

abbrev pub flush_key : ℕ → ℕ → ℕ
flush_key t l = l * 256 + t

abbrev pub HasKey : List ℕ → ℕ → Type 0
HasKey keys k = list_any (nat_eq k) keys ≡ true

-- This is what comes after event m up to event n.
pub record IsLater (T : Recording) (m n : ℕ) (s : Later) : Type 0 where
  pub threads : length s.fences ≡ 256
  pub fences : (t : ℕ) → t < 256 → (slice_index_or s.fences t false ≡ true) ↔ Since (λ k. IsAct T k (Fences t)) m n
  pub complete : (l : ℕ) → HasKey s.complete.keys l ↔ Since (λ k. IsCompleteBy T l k n) m n
  pub waiting : (t l : ℕ) → t < 256 → HasKey s.waiting.keys (flush_key t l) ↔ Since (IsOpenAt T t l n) m n

-- It tells whether event k is carried over place n.
abbrev pub TellsCarried : Recording → ℕ → ℕ → Bool → Type 0
TellsCarried T n k told = (told ≡ true) ↔ IsCarried T n k

-- Of the events after event m up to event n those are marked that are carried over place n.
abbrev pub AreCarried : Recording → ℕ → ℕ → List Bool → Type 0
AreCarried T m n marked = (k : ℕ) → m < k → k ≤ n → TellsCarried T n k (is_kept_at marked k)
