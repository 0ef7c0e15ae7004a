-- Stores that a fence of their thread leaves unsafe, and the flushes that this fence completes.
use Rattle.std.specs.Prelude.{◌≡◌, ◌&&◌, ◌<◌, ℕ, suc, ◌-◌, Bool, true, false, List, length, nat_le, slice_index, slice_index_or}
use Rattle.pmt_laws.specs.Prelude.{Act, Flushes}
use Rattle.pmt_hints.specs.Claiming.{left_unsafe}

-- By these lists of all events, the next own fence of event i is no later than the next flush of its line.
abbrev pub is_fenced_first : List ℕ → List ℕ → ℕ → Bool
is_fenced_first fences flushes i = nat_le (slice_index fences (i - 1)) (slice_index flushes (i - 1))

-- So it is for the event at index k, and it is left unsafe, by for how many fences each event waits, and their safe places.
abbrev pub is_left_first : List ℕ → List ℕ → List ℕ → List ℕ → ℕ → Bool
is_left_first waited safe fences flushes k = left_unsafe (slice_index_or waited k 0) (slice_index_or safe k 0) (length safe) && is_fenced_first fences flushes (suc k)

-- The number of the next own fence of each such store at an index below n is flagged, as each number past the end counts to be.
abbrev pub AreEnds : List ℕ → List ℕ → List ℕ → List ℕ → ℕ → List Bool → Type 0
AreEnds waited safe fences flushes n ends = (k : ℕ) → k < n → is_left_first waited safe fences flushes k ≡ true → slice_index_or ends (slice_index fences k) true ≡ true

-- The act with number i is a flush that waits for such a fence.
abbrev pub is_ended : List Bool → List ℕ → ℕ → Act → Bool
is_ended ends fences i (Flushes t l) = slice_index_or ends (slice_index fences (i - 1)) true
is_ended ends fences i a = false
