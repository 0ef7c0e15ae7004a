-- The stores of a line's job, and which of them wrote a byte last.
use Rattle.std.specs.Prelude.{◌≡◌, ℕ, zero, suc, ◌+◌, ◌-◌, ◌*◌, ◌^◌, ◌<◌, ◌≤◌, ◌⊎◌, ◌&&◌, nat_le, nat_lt, Bool, true, if◌then◌else◌, List, [], ◌∷◌, length, Option, MatchOption, Contains, None, Some, min, ◌==◌, slice_index_or}
use Rattle.std.specs.List.Sorted.{IsNonDecreasingBy}
use Rattle.pmt_lines.specs.declared.step.StepKind.{StepKind}
use Rattle.pmt_lines.specs.declared.step.StepKind.TheVariants.{Store, Flush, Clflush, Fence}
use Rattle.pmt_lines.specs.declared.step.Step.{Step}
use Rattle.pmt_asserts.specs.declared.put.Put.{Put}
use Rattle.pmt_asserts.specs.declared.put.Write.{Write}

-- The store writes the byte at b.
abbrev pub covers : Put → ℕ → Bool
covers p b = nat_le p.addr b && nat_lt (b - p.addr) p.len

abbrev pub with_put : ℕ → StepKind → List Put → List Put
with_put number (Store addr len) puts = record { number = number; addr = addr; len = len } ∷ puts
with_put number Flush puts = puts
with_put number Clflush puts = puts
with_put number Fence puts = puts

-- The stores among the steps, in order. The rank of a store is its place among them, from 1.
abbrev pub puts_of : List Step → List Put
puts_of [] = []
puts_of (s ∷ steps) = with_put s.number s.kind (puts_of steps)

abbrev pub no_put : Put
no_put = record { number = 0; addr = 0; len = 0 }

-- The store with this place in the list, from 0.
abbrev pub put_at : List Put → ℕ → Put
put_at puts k = slice_index_or puts k no_put

-- The rank of the last one of the first c stores that writes the byte at b, or 0.
unfoldable pub last_in : List Put → ℕ → ℕ → ℕ
last_in puts b zero = 0
last_in puts b (suc c) = if covers (put_at puts c) b then suc c else last_in puts b c

-- m is the least rank of a last store to one of the bytes from low to high, of the first c stores.
pub record IsLeastIn (puts : List Put) (c low high m : ℕ) : Type 0 where
  pub some : 0 < m
  pub bound : (b : ℕ) → low ≤ b → b < high → (last_in puts b c ≡ 0) ⊎ (m ≤ last_in puts b c)
  pub reached : (b : ℕ) × (low ≤ b) × (b < high) × (last_in puts b c ≡ m)

-- The least rank, if one of the bytes is written.
abbrev pub IsLeastOf : List Put → ℕ → ℕ → ℕ → Option ℕ → Type 0
IsLeastOf puts c low high o = MatchOption o ((b : ℕ) → low ≤ b → b < high → last_in puts b c ≡ 0) (IsLeastIn puts c low high)

-- By this number writes stand by byte, and those of one byte by rank.
abbrev pub key_of : Write → ℕ
key_of w = w.byte * 18446744073709551616 + w.rank

-- The store with this rank writes this byte.
pub record IsWriteOf (puts : List Put) (w : Write) : Type 0 where
  pub some : 0 < w.rank
  pub within : w.rank ≤ length puts
  pub writes : covers (put_at puts (w.rank - 1)) w.byte ≡ true

-- The store ends before address 2^64.
abbrev pub Fits : Put → Type 0
Fits p = p.addr + p.len < 2 ^ 64

-- All bytes that the stores write, by byte and then by rank.
pub record AreWritesOf (puts : List Put) (writes : List Write) : Type 0 where
  pub few : length puts < 2 ^ 64
  pub sorted : IsNonDecreasingBy key_of writes
  pub just : (w : Write) → Contains writes w → IsWriteOf puts w
  pub all : (w : Write) → IsWriteOf puts w → Contains writes w

-- What every table of a line keeps.
pub record IsTableOf (steps : List Step) (puts : List Put) (writes : List Write) : Type 0 where
  pub stores : puts ≡ puts_of steps
  pub written : AreWritesOf puts writes

-- The lesser one of two ranks, 0 being none.
abbrev pub IsLesser : Option ℕ → ℕ → Option ℕ → Type 0
IsLesser least rank result = MatchOption least (result ≡ if rank == 0 then None else Some rank) (λ other. result ≡ if rank == 0 then Some other else Some (min other rank))
