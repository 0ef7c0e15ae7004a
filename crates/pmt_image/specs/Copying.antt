-- What copying a pool reads and writes, and which pools are refused.
use Rattle.std.specs.Prelude.{ℕ, ◌≡◌, ◌<◌, ◌≤◌, List, length, take, Option, Result, Ok, Err}
use Rattle.std.specs.Io.KnownBytes.{Keeps, Appends, Consumes, IsAtEnd}
use Rattle.pmt_laws.specs.Prelude.{Image, image_of, history, Recording}
use Rattle.pmt_image.specs.declared.pool.Pool.{Pool}
use Rattle.pmt_image.specs.declared.persisting.StoreFault.{StoreFault}
use Rattle.pmt_image.specs.declared.copying.ImageFault.{ImageFault}
use Rattle.pmt_image.specs.declared.copying.ImageFault.TheVariants.{Outside, OutOfMemory, Copy}
use Rattle.pmt_image.specs.Pools.{IsFirstOutside, over, IsPoolAfter}
use Rattle.pmt_image.specs.declared.crash.Crash.{Crash}
use Rattle.pmt_image.specs.declared.copying.Stop.{Stop}
use Rattle.pmt_image.specs.declared.copying.CopyFault.{CopyFault}
use Rattle.pmt_image.specs.Crashes.{persisted_by}
use Rattle.pmt_image.specs.declared.persisting.StoreFault.TheVariants as stores
use Rattle.pmt_image.specs.declared.copying.Stop.TheVariants as stops

-- The fault is of the first store outside of the pool, or memory was refused.
abbrev pub IsRefused : Recording → ℕ → Pool → ImageFault → Type 0
IsRefused T n pool (Outside event address) = IsFirstOutside T n pool event address
IsRefused T n pool OutOfMemory = Unit {0}
IsRefused T n pool (Copy fault) = ⊥

abbrev pub refusal_of : StoreFault → ImageFault
refusal_of (stores.Outside event address) = Outside event address
refusal_of stores.OutOfMemory = OutOfMemory

-- ---- What copying a pool reads and writes

-- These bytes, from the address on, were read, and of what they are with the image over them the first `out` bytes were written.
pub record IsCopied (image : Image) (at : ℕ) (bytes : List ℕ) (out : ℕ) (read_old read_new out_old out_new : Option (List ℕ)) : Type 0 where
  pub taken : Consumes read_old read_new bytes
  pub given : Appends out_old out_new (take out (over image at bytes))
  pub within : out ≤ length bytes

-- What ended it, where so many bytes were to be read and these were: unless a write failed all of them are out, and too few came only
-- where the reader has no more.
abbrev pub IsEndedBy : Stop → ℕ → List ℕ → ℕ → Option (List ℕ) → Type 0
IsEndedBy stops.Read size bytes out read_new = out ≡ length bytes
IsEndedBy stops.Short size bytes out read_new = (out ≡ length bytes) × (length bytes < size) × IsAtEnd read_new
IsEndedBy stops.Write size bytes out read_new = Unit {0}

-- One piece of at most so many bytes: all of it, or the first bytes of it, and then a device failed or nothing more came.
abbrev pub CopiesPiece : Image → ℕ → ℕ → Option (List ℕ) → Option (List ℕ) → Option (List ℕ) → Option (List ℕ) → Result ℕ CopyFault → Type 0
CopiesPiece image at most read_old read_new out_old out_new (Ok n) =
    (bytes : List ℕ) × (length bytes ≡ n) × (0 < n) × (n ≤ most) × IsCopied image at bytes n read_old read_new out_old out_new
CopiesPiece image at most read_old read_new out_old out_new (Err fault) =
    (bytes : List ℕ) × (length bytes ≤ most) × IsCopied image at bytes fault.written read_old read_new out_old out_new
    × IsEndedBy fault.stop most bytes fault.written read_new

-- So many bytes: all, or the first ones.
abbrev pub Copies : Image → ℕ → ℕ → Option (List ℕ) → Option (List ℕ) → Option (List ℕ) → Option (List ℕ) → Result (Unit {0}) CopyFault → Type 0
Copies image at size read_old read_new out_old out_new (Ok u) =
    (bytes : List ℕ) × (length bytes ≡ size) × IsCopied image at bytes size read_old read_new out_old out_new
Copies image at size read_old read_new out_old out_new (Err fault) =
    (bytes : List ℕ) × (length bytes ≤ size) × IsCopied image at bytes fault.written read_old read_new out_old out_new
    × IsEndedBy fault.stop size bytes fault.written read_new

-- How many reads failed, and how many writes and flushes.
abbrev pub stop_reads : Stop → ℕ
stop_reads stops.Read = 1
stop_reads stops.Short = 0
stop_reads stops.Write = 0

abbrev pub stop_writes : Stop → ℕ
stop_writes stops.Read = 0
stop_writes stops.Short = 0
stop_writes stops.Write = 1

abbrev pub copy_reads : {A : Type 0} → Result A CopyFault → ℕ
copy_reads (Ok x) = 0
copy_reads (Err fault) = stop_reads fault.stop

abbrev pub copy_writes : {A : Type 0} → Result A CopyFault → ℕ
copy_writes (Ok x) = 0
copy_writes (Err fault) = stop_writes fault.stop

abbrev pub image_reads : {A : Type 0} → Result A ImageFault → ℕ
image_reads (Ok x) = 0
image_reads (Err (Outside event address)) = 0
image_reads (Err OutOfMemory) = 0
image_reads (Err (Copy fault)) = stop_reads fault.stop

abbrev pub image_writes : {A : Type 0} → Result A ImageFault → ℕ
image_writes (Ok x) = 0
image_writes (Err (Outside event address)) = 0
image_writes (Err OutOfMemory) = 0
image_writes (Err (Copy fault)) = stop_writes fault.stop

-- What is told of the copying.
abbrev pub copy_result : Result (Unit {0}) CopyFault → Result (Unit {0}) ImageFault
copy_result (Ok u) = Ok u
copy_result (Err fault) = Err (Copy fault)

-- What the crash leaves in memory.
abbrev pub image_after : Recording → Crash → Image
image_after T crash a = image_of (persisted_by crash) (history T crash.place) a

-- The pool after the crash is out; or its first bytes are, and then a device failed or the reader was at its end before the pool was
-- whole; or nothing is, since a store lies outside of the pool or memory was refused.
abbrev pub WritesImage : Recording → Crash → Pool → Option (List ℕ) → Option (List ℕ) → Option (List ℕ) → Option (List ℕ) → Result (Unit {0}) ImageFault → Type 0
WritesImage T crash pool read_old read_new out_old out_new (Ok u) =
    (base : List ℕ) × (bytes : List ℕ) × Consumes read_old read_new base × IsPoolAfter T crash.place (persisted_by crash) pool base bytes × Appends out_old out_new bytes
WritesImage T crash pool read_old read_new out_old out_new (Err (Outside event address)) =
    IsFirstOutside T crash.place pool event address × Keeps read_old read_new × Keeps out_old out_new
WritesImage T crash pool read_old read_new out_old out_new (Err OutOfMemory) = Keeps read_old read_new × Keeps out_old out_new
WritesImage T crash pool read_old read_new out_old out_new (Err (Copy fault)) =
    (base : List ℕ) × (length base ≤ pool.size) × IsCopied (image_after T crash) pool.origin base fault.written read_old read_new out_old out_new
    × IsEndedBy fault.stop pool.size base fault.written read_new
