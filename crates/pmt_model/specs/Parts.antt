-- How an address lies in memory: in three parts of 16 bits.
use Rattle.std.specs.Prelude.{◌≡◌, ℕ, ◌+◌, ◌*◌, ◌/◌, ◌%◌, ◌<◌}
use Rattle.std.proofs.Common.{ap, ◌∙◌, arith}
use Rattle.pmt_model.specs.declared.addr.Addr.TheInside.{Inside}

abbrev pub address_from : Inside → ℕ
address_from a = a.low + a.middle * 65536 + a.high * 4294967296

pub record AreParts (a : Inside) : Type 0 where
  pub low : a.low < 65536
  pub middle : a.middle < 65536
  pub high : a.high < 65536

abbrev pub parts_of : ℕ → Inside
parts_of n = record { low = n % 65536; middle = n / 65536 % 65536; high = n / 4294967296 }

pub parts_back : (a : Inside) → AreParts a → parts_of (address_from a) ≡ a
parts_back a h =
    let low : address_from a % 65536 ≡ a.low = omega (arith, h.low) in
    let middle : address_from a / 65536 % 65536 ≡ a.middle = omega (arith, h.low, h.middle) in
    let high : address_from a / 4294967296 ≡ a.high = omega (arith, h.low, h.middle) in
    let by_low : ℕ → Inside = λ n. record { low = n; middle = address_from a / 65536 % 65536; high = address_from a / 4294967296 } in
    let by_middle : ℕ → Inside = λ n. record { low = a.low; middle = n; high = address_from a / 4294967296 } in
    let by_high : ℕ → Inside = λ n. record { low = a.low; middle = a.middle; high = n } in
    ap by_low low ∙ ap by_middle middle ∙ ap by_high high
