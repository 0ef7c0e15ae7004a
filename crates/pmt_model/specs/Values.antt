-- What contracts see of a store, a range, a format and a trace, which of them there are, and which are refused.
use Rattle.std.specs.Prelude.{ℕ, ◌+◌, ◌/◌, ◌%◌, ◌^◌, ◌<◌, ◌≤◌, List, length, Bool, ◌||◌, ◌&&◌, ◌==◌, if◌then◌else◌, IsTrue, Result, Ok, Err, nat_lt, nat_le}
use Rattle.std.specs.List.{AllByRecursion}
use Rattle.pmt_model.specs.declared.fault.FormatError.{FormatError}
use Rattle.pmt_model.specs.declared.fault.FormatError.TheVariants.{BadLineSize}
use Rattle.pmt_model.specs.declared.fault.OpError.{OpError}
use Rattle.pmt_model.specs.declared.fault.OpError.TheVariants.{BadLength, OutOfRange, CrossesWord}

-- Bytes in a row, from an address on.
pub record Written : Type 0 where
  pub addr : ℕ
  pub bytes : List ℕ

-- The addresses from addr on, len of them.
pub record Span : Type 0 where
  pub addr : ℕ
  pub len : ℕ

-- A version of the trace text, and the number of bytes in a line.
pub record Layout : Type 0 where
  pub version : ℕ
  pub line_size : ℕ

-- The line of an address.
abbrev pub line_of : Layout → ℕ → ℕ
line_of format a = a / format.line_size

-- An address has 48 bits (own profile).
abbrev pub IsAddress : ℕ → Type 0
IsAddress a = a < 2 ^ 48

abbrev pub AreBytes : List ℕ → Type 0
AreBytes bytes = AllByRecursion (λ b. b < 256) bytes

-- A store has 1 to 8 bytes inside one aligned word of 8 (own profile).
pub record IsStore (w : Written) : Type 0 where
  pub address : IsAddress w.addr
  pub some : 1 ≤ length w.bytes
  pub inside : w.addr % 8 + length w.bytes ≤ 8
  pub each : AreBytes w.bytes

-- A range has 1 to 4096 bytes, none past 48 bits (own profile).
pub record IsRange (r : Span) : Type 0 where
  pub some : 1 ≤ r.len
  pub few : r.len ≤ 4096
  pub within : r.addr + r.len ≤ 2 ^ 48

-- version 1 has lines of 64 bytes
abbrev pub first_version : Layout
first_version = record { version = 1; line_size = 64 }

abbrev pub is_line_size : ℕ → Bool
is_line_size size = (size == 32) || (size == 64) || (size == 128) || (size == 256)

-- version 2 has lines of 32, 64, 128 or 256 bytes
abbrev pub second_version : ℕ → Result Layout FormatError
second_version size = if is_line_size size then Ok (record { version = 2; line_size = size }) else Err BadLineSize

abbrev pub IsFormat : Layout → Type 0
IsFormat f = IsTrue (((f.version == 1) && (f.line_size == 64)) || ((f.version == 2) && is_line_size f.line_size))

-- ---- Which addresses, payloads, stores and ranges there are, and which refusal comes first for others

abbrev pub address_of : ℕ → Result ℕ OpError
address_of a = if nat_lt a (2 ^ 48) then Ok a else Err OutOfRange

abbrev pub payload_of : List ℕ → Result (List ℕ) OpError
payload_of bytes = if (length bytes == 0) || nat_lt 8 (length bytes) then Err BadLength else Ok bytes

abbrev pub word_store_of : ℕ → List ℕ → Result Written OpError
word_store_of a bytes = if nat_le (a % 8 + length bytes) 8 then Ok (record { addr = a; bytes = bytes }) else Err CrossesWord

abbrev pub range_of : ℕ → ℕ → Result Span OpError
range_of a len =
    if (len == 0) || nat_lt 4096 len then Err BadLength else (if nat_lt (2 ^ 48) (a + len) then Err OutOfRange else Ok (record { addr = a; len = len }))
