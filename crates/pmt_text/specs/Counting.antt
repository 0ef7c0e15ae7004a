-- Which calls of a device count as failures, and what the devices for tests hold.
use Rattle.std.specs.Prelude.{ℕ, zero, suc, List, [], ◌∷◌, Result, Ok, Err}
use Rattle.pmt_text.specs.declared.counted.Counted.{Counted}
use Rattle.pmt_text.specs.declared.devices.PieceReader.{PieceReader}
use Rattle.pmt_text.specs.declared.devices.LimitedWriter.{LimitedWriter}

-- the reader or writer inside
abbrev pub inner_device : {D : Type 0} → Counted D → D
inner_device c = c.inner

-- how many of its calls failed
abbrev pub failure_count : {D : Type 0} → Counted D → ℕ
failure_count c = c.failures

-- 1 where a read or a flush answers Err
abbrev pub failed_call : {T E : Type 0} → Result T E → ℕ
failed_call (Ok x) = 0
failed_call (Err e) = 1

-- 1 where a write answers Err, or takes no byte of some
abbrev pub failed_write : {E : Type 0} → Result ℕ E → List ℕ → ℕ
failed_write (Err e) piece = 1
failed_write (Ok zero) [] = 0
failed_write (Ok zero) (b ∷ bs) = 1
failed_write (Ok (suc n)) piece = 0

-- the bytes that reads still give
abbrev pub bytes_left : PieceReader → List ℕ
bytes_left r = r.bytes.now

-- the bytes that were written
abbrev pub bytes_kept : LimitedWriter → List ℕ
bytes_kept w = w.kept.items
