-- The lines and bytes that a store writes.
use Rattle.std.proofs.Common.{◌≡◌, ℕ, ◌+◌, ◌-◌, ◌/◌, ◌<◌, ◌≤◌, ◌==◌, Bool, true, false, length, refl, sym, ◌∙◌, arith, eqb-true}
use Rattle.std.specs.Prelude.{◌&&◌, ◌||◌, nat_le, nat_lt, IsTrue}
use Rattle.std.proofs.lemmas.Bool.{ltb-true, leb-true, true≢false}
use Rattle.pmt_laws.specs.Prelude.{Written, Layout, line_of, IsStore, IsFormat, is_line_size, writes}

-- A store within its limits, of this line.
pub record IsStoreOf (f : Layout) (l : ℕ) (w : Written) : Type 0 where
  pub store : IsStore w
  pub line : line_of f w.addr ≡ l

-- a line has 32, 64, 128 or 256 bytes
pub data IsSize (size : ℕ) : Type 0 where
  Bytes32 : size ≡ 32 → IsSize size
  Bytes64 : size ≡ 64 → IsSize size
  Bytes128 : size ≡ 128 → IsSize size
  Bytes256 : size ≡ 256 → IsSize size

second-size : (size : ℕ) → IsTrue (is_line_size size) → IsSize size
second-size size h = go (size == 32) (size == 64) (size == 128) (size == 256) refl refl refl refl h
  where
    go : (a b c d : Bool) → (size == 32) ≡ a → (size == 64) ≡ b → (size == 128) ≡ c → (size == 256) ≡ d → IsTrue (a || b || c || d) → IsSize size
    go true b c d p q r s h = Bytes32 (eqb-true size 32 p)
    go false true c d p q r s h = Bytes64 (eqb-true size 64 q)
    go false false true d p q r s h = Bytes128 (eqb-true size 128 r)
    go false false false true p q r s h = Bytes256 (eqb-true size 256 s)
    go false false false false p q r s h = absurd (true≢false (sym h))

pub size-of_format : (f : Layout) → IsFormat f → IsSize f.line_size
size-of_format f h = go (f.version == 1) (f.line_size == 64) (f.version == 2) refl h
  where
    go : (a b c : Bool) → (f.line_size == 64) ≡ b → IsTrue ((a && b) || (c && is_line_size f.line_size)) → IsSize f.line_size
    go true true c e h = Bytes64 (eqb-true f.line_size 64 e)
    go true false true e h = second-size f.line_size h
    go true false false e h = absurd (true≢false (sym h))
    go false b true e h = second-size f.line_size h
    go false b false e h = absurd (true≢false (sym h))

-- addresses of one word are of one line
pub same-line : (f : Layout) (a b : ℕ) → IsSize f.line_size → a / 8 ≡ b / 8 → line_of f a ≡ line_of f b
same-line f a b size h = go f.line_size size
  where
    go : (size : ℕ) → IsSize size → a / size ≡ b / size
    go size (Bytes32 e) = rw e (omega (arith, h))
    go size (Bytes64 e) = rw e (omega (arith, h))
    go size (Bytes128 e) = rw e (omega (arith, h))
    go size (Bytes256 e) = rw e (omega (arith, h))

-- The byte is one of the store's.
abbrev pub IsByteOf : Written → ℕ → Type 0
IsByteOf w b = (w.addr ≤ b) × (b < w.addr + length w.bytes)

pub byte-from_writes : (w : Written) (b : ℕ) → writes w b ≡ true → IsByteOf w b
byte-from_writes w b h = go (nat_le w.addr b) (nat_lt (b - w.addr) (length w.bytes)) refl refl h
  where
    go : (x y : Bool) → nat_le w.addr b ≡ x → nat_lt (b - w.addr) (length w.bytes) ≡ y → (x && y) ≡ true → IsByteOf w b
    go true true p q e = let from = leb-true w.addr b p in let to = ltb-true (b - w.addr) (length w.bytes) q in (from, omega (arith, from, to))
    go true false p q e = absurd (true≢false (sym e))
    go false y p q e = absurd (true≢false (sym e))

pub writes-from_byte : (w : Written) (b : ℕ) → IsByteOf w b → writes w b ≡ true
writes-from_byte w b h = grind (arith, h.0, h.1)

-- a store of a line writes bytes of that line alone
pub byte-line : (f : Layout) (l b : ℕ) (w : Written) → IsSize f.line_size → IsStoreOf f l w → writes w b ≡ true → line_of f b ≡ l
byte-line f l b w size store h =
    let at = byte-from_writes w b h in
    let word : b / 8 ≡ w.addr / 8 = omega (arith, store.store.inside, at.0, at.1) in
    same-line f b w.addr size word ∙ store.line

-- a lower address is on no higher line
pub line-le : (f : Layout) (a b : ℕ) → IsSize f.line_size → a ≤ b → line_of f a ≤ line_of f b
line-le f a b size h = go f.line_size size
  where
    go : (size : ℕ) → IsSize size → a / size ≤ b / size
    go size (Bytes32 e) = rw e (omega (arith, h))
    go size (Bytes64 e) = rw e (omega (arith, h))
    go size (Bytes128 e) = rw e (omega (arith, h))
    go size (Bytes256 e) = rw e (omega (arith, h))
