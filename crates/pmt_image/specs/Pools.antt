-- The pool after a crash, and stores outside of it.
use Rattle.std.specs.Prelude.{◌≡◌, ℕ, suc, ◌+◌, ◌<◌, ◌≤◌, ◌⊎◌, true, List, [], ◌∷◌, length, unwrap_or}
use Rattle.pmt_laws.specs.Prelude.{Written, Act, Stores, Flushes, Clflushes, Fences, Asserts, Image, writes, image_of, Recording, IsAct, history, Op, Store, AllByRecursion}
use Rattle.pmt_image.specs.declared.pool.Pool.{Pool}
use Rattle.pmt_image.specs.declared.persisting.StoreFault.{StoreFault}
use Rattle.pmt_image.specs.declared.persisting.StoreFault.TheVariants.{Outside, OutOfMemory}

-- These bytes, the first of them at the address, with those of the image over them: each byte is what was written there, else what it was.
abbrev pub over : Image → ℕ → List ℕ → List ℕ
over image at [] = []
over image at (b ∷ bs) = unwrap_or (image at) b ∷ over image (suc at) bs

-- A store lies in the pool.
abbrev pub IsInside : Pool → Act → Type 0
IsInside pool (Stores l w) = (pool.origin ≤ w.addr) × (w.addr + length w.bytes ≤ pool.origin + pool.size)
IsInside pool (Flushes t l) = Unit {0}
IsInside pool (Clflushes l) = Unit {0}
IsInside pool (Fences t) = Unit {0}
IsInside pool Asserts = Unit {0}

abbrev pub AllInside : Pool → List Act → Type 0
AllInside pool history = AllByRecursion (IsInside pool) history

-- Of the stores among the first n events this is the first one outside of the pool, which does not have its byte at the address.
pub record IsFirstOutside (T : Recording) (n : ℕ) (pool : Pool) (event address : ℕ) : Type 0 where
  pub before : ℕ
  pub number : event ≡ suc before
  pub by_now : event ≤ n
  pub line : ℕ
  pub what : Written
  pub is_store : IsAct T event (Stores line what)
  pub writes_byte : writes what address ≡ true
  pub outside : (address < pool.origin) ⊎ (pool.origin + pool.size ≤ address)
  pub others : AllInside pool (history T before)

-- The pool, which had the bytes `base`, has these bytes after a crash at place n that leaves so many stores of each line persisted.
pub record IsPoolAfter (T : Recording) (n : ℕ) (persisted : ℕ → ℕ) (pool : Pool) (base bytes : List ℕ) : Type 0 where
  pub whole : length base ≡ pool.size
  pub inside : AllInside pool (history T n)
  pub bytes_are : bytes ≡ over (image_of persisted (history T n)) pool.origin base

-- The store writes the byte, which is none of the pool's.
pub record IsOutsideByte (w : Written) (pool : Pool) (address : ℕ) : Type 0 where
  pub writes_byte : writes w address ≡ true
  pub outside : (address < pool.origin) ⊎ (pool.origin + pool.size ≤ address)

-- The op is such a store, and the fault tells its number and that byte; or memory was refused.
pub record IsOutsideOp (op : Op) (pool : Pool) (address : ℕ) : Type 0 where
  pub what : Written
  pub is_store : op ≡ Store what
  pub byte : IsOutsideByte what pool address

abbrev pub IsOpFault : Op → Pool → ℕ → StoreFault → Type 0
IsOpFault op pool number (Outside event address) = (event ≡ number) × IsOutsideOp op pool address
IsOpFault op pool number OutOfMemory = Unit {0}

-- The fault is of the first such store among the first n events, or memory was refused.
abbrev pub FindsFault : Recording → ℕ → Pool → StoreFault → Type 0
FindsFault T n pool (Outside event address) = IsFirstOutside T n pool event address
FindsFault T n pool OutOfMemory = Unit {0}
