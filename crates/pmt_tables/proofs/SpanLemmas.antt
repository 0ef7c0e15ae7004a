-- Where the lines of a range begin and end.
use Rattle.std.proofs.Common.{◌≡◌, ℕ, ◌+◌, ◌-◌, ◌*◌, ◌<◌, ◌≤◌, ◌&&◌, ◌||◌, ◌==◌, Bool, true, false, refl, sym, true≢false, arith}
use Rattle.std.specs.Prelude.{IsTrue}
use Rattle.std.proofs.lemmas.Bool.{eqb-true}
use Rattle.std.proofs.lemmas.Nat.{le-div}
use Rattle.std.proofs.Math.Nat.{div-mul-le_self}
use Rattle.pmt_laws.specs.Prelude.{Layout, line_of, IsFormat, is_line_size}
use Rattle.pmt_tables.specs.Slots.{LinesAreMet}

-- a line has some bytes, and 256 at most
record IsSmall (size : ℕ) : Type 0 where
  pub some : 0 < size
  pub few : size ≤ 256

small-size : (size : ℕ) → IsTrue (is_line_size size) → IsSmall size
small-size size h = go (size == 32) (size == 64) (size == 128) (size == 256) refl refl refl refl h
  where
    go : (a b c d : Bool) → (size == 32) ≡ a → (size == 64) ≡ b → (size == 128) ≡ c → (size == 256) ≡ d → IsTrue (a || b || c || d) → IsSmall size
    go true b c d p q r s h = let e = eqb-true size 32 p in record { some = omega (arith, e); few = omega (arith, e) }
    go false true c d p q r s h = let e = eqb-true size 64 q in record { some = omega (arith, e); few = omega (arith, e) }
    go false false true d p q r s h = let e = eqb-true size 128 r in record { some = omega (arith, e); few = omega (arith, e) }
    go false false false true p q r s h = let e = eqb-true size 256 s in record { some = omega (arith, e); few = omega (arith, e) }
    go false false false false p q r s h = absurd (true≢false (sym h))

small-line : (f : Layout) → IsFormat f → IsSmall f.line_size
small-line f h = go (f.version == 1) (f.line_size == 64) (f.version == 2) refl h
  where
    of-64 : (f.line_size == 64) ≡ true → IsSmall f.line_size
    of-64 t = let e = eqb-true f.line_size 64 t in record { some = omega (arith, e); few = omega (arith, e) }

    go : (a b c : Bool) → (f.line_size == 64) ≡ b → IsTrue ((a && b) || (c && is_line_size f.line_size)) → IsSmall f.line_size
    go true true c e h = of-64 e
    go true false true e h = small-size f.line_size h
    go true false false e h = absurd (true≢false (sym h))
    go false b true e h = small-size f.line_size h
    go false b false e h = absurd (true≢false (sym h))

-- each byte of a range is of a line between the first and the last one
pub lines-met : LinesAreMet
lines-met f A s b is own =
    let small = small-line f is.format in
    let low : line_of f A.addr * f.line_size ≤ A.addr = div-mul-le_self A.addr f.line_size in
    let first : line_of f A.addr ≤ line_of f b = le-div (line_of f A.addr) b f.line_size small.some (omega (arith, low, own.0)) in
    let high : line_of f b * f.line_size ≤ b = div-mul-le_self b f.line_size in
    let last : line_of f b ≤ line_of f (A.addr + A.len - 1) = le-div (line_of f b) (A.addr + A.len - 1) f.line_size small.some (omega (arith, high, own.1)) in
    (omega (arith, first, is.first), omega (arith, last, is.last))
