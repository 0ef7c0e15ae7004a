-- The ops that the constructors give, and how bytes are cut into stores of one word each.
use Rattle.std.specs.Prelude.{ℕ, List, Result, Ok, Err, ◌≡◌, ◌+◌, ◌-◌, ◌%◌, ◌^◌, ◌<◌, ◌≤◌, ◌⊎◌, min, [], ◌∷◌, length, map, take, drop}
use Rattle.std.specs.List.{AllByRecursion, flat_map}
use Rattle.pmt_model.specs.Values.{address_of, payload_of, word_store_of, Written}
use Rattle.pmt_model.specs.declared.event.Op.{Op}
use Rattle.pmt_model.specs.declared.event.Op.TheVariants.{Store, Clwb, ClflushOpt, Clflush}
use Rattle.pmt_model.specs.declared.fault.OpError.{OpError}
use Rattle.pmt_model.specs.declared.fault.SplitStoreError.{SplitStoreError}
use Rattle.pmt_model.specs.declared.fault.SplitStoreError.TheVariants.{BadLength, OutOfRange, OutOfMemory}

-- goes on with the value, if there is one
abbrev pub then_of : {A B : Type 0} → Result A OpError → (A → Result B OpError) → Result B OpError
then_of (Ok x) f = f x
then_of (Err e) f = Err e

-- the length is judged first, then the address, then whether the store lies inside one word
abbrev pub store_of : ℕ → List ℕ → Result Op OpError
store_of a bytes = then_of (payload_of bytes) (λ p. then_of (address_of a) (λ v. then_of (word_store_of v p) (λ w. Ok (Store w))))

abbrev pub clwb_of : ℕ → Result Op OpError
clwb_of a = then_of (address_of a) (λ v. Ok (Clwb v))

abbrev pub clflushopt_of : ℕ → Result Op OpError
clflushopt_of a = then_of (address_of a) (λ v. Ok (ClflushOpt v))

abbrev pub clflush_of : ℕ → Result Op OpError
clflush_of a = then_of (address_of a) (λ v. Ok (Clflush v))

-- ---- How bytes are cut into stores of one word each

-- The first piece goes to the end of the aligned word in which the address lies, or of the bytes, and the next ones follow.
abbrev pub AreWordPieces : ℕ → List ℕ → List Op → Type 0
AreWordPieces addr bytes [] = bytes ≡ []
AreWordPieces addr bytes (op ∷ ops) =
    let room = 8 - addr % 8 in (1 ≤ length bytes) × (op ≡ Store (record { addr = addr; bytes = take room bytes }))
    × AreWordPieces (addr + min room (length bytes)) (drop room bytes) ops

-- Each piece begins where the one before it ends, the first one at addr.
abbrev pub AreAdjoining : ℕ → List Written → Type 0
AreAdjoining addr [] = Unit {0}
AreAdjoining addr (w ∷ ws) = (w.addr ≡ addr) × AreAdjoining (addr + length w.bytes) ws

-- The piece has bytes, and lies inside one aligned word of 8.
pub record IsInWord (w : Written) : Type 0 where
  pub some : 1 ≤ length w.bytes
  pub inside : w.addr % 8 + length w.bytes ≤ 8

-- What it is to cut the bytes at addr into stores: laid side by side from addr on the pieces are the bytes, each lies in one word,
-- and there are 1 to 513.
pub record IsCutInWords (addr : ℕ) (bytes : List ℕ) (ops : List Op) : Type 0 where
  pub pieces : List Written
  pub stores : ops ≡ map (λ w. Store w) pieces
  pub whole : flat_map (λ w. w.bytes) pieces ≡ bytes
  pub adjoining : AreAdjoining addr pieces
  pub in_words : AllByRecursion IsInWord pieces
  pub some : 1 ≤ length pieces
  pub few : length pieces ≤ 513

pub record IsSplittable (addr : ℕ) (bytes : List ℕ) : Type 0 where
  pub some : 1 ≤ length bytes
  pub few : length bytes ≤ 4096
  pub within : addr + length bytes ≤ 2 ^ 48

-- The length is judged first, then the addresses; memory may be refused where both are right.
abbrev pub SplitRefuses : ℕ → List ℕ → SplitStoreError → Type 0
SplitRefuses addr bytes BadLength = (length bytes ≡ 0) ⊎ (4096 < length bytes)
SplitRefuses addr bytes OutOfRange = (1 ≤ length bytes) × (length bytes ≤ 4096) × (2 ^ 48 < addr + length bytes)
SplitRefuses addr bytes OutOfMemory = IsSplittable addr bytes
