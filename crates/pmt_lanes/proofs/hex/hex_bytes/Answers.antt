-- The digits are those of the first sixteen bytes, two for each byte.
use Rattle.std.proofs.Common.{ℕ, List, subst, sym, ap, ◌∙◌, take, arith, w64}
use Rattle.std.specs.Int.{from_le_bytes}
use Rattle.std.specs.Int.Digits.{AllBelowBase}
use Rattle.pmt_lanes.specs.Digits.{is_hex_digit, joined}
use Rattle.pmt_lanes.proofs.DigitLemmas.{bytes_read, nibbles-lt}
use Rattle.pmt_lanes.proofs.RunLemmas.{is_found, not_found, run-take}
use Rattle.pmt_lanes.proofs.hex.hex_bytes.Goals as goal

pub returns-then-count-eq1-clause-found : goal.returns-then-count-eq1-clause-found
returns-then-count-eq1-clause-found c =
    let run = c.hex_run-count.ensures.run ∙ run-take is_hex_digit 16 c.args.text.now in
    not_found (λ a. omega (arith, run, a.1, c.if-count-eq1.true))

pub join-requires : goal.join-requires
join-requires c = subst (λ (ds : List ℕ). AllBelowBase 16 ds) (sym c.nibbles.ensures) (nibbles-lt (take 16 c.args.text.now))

pub returns-clause-found : goal.returns-clause-found
returns-clause-found c =
    let run = c.hex_run-count.ensures.run ∙ run-take is_hex_digit 16 c.args.text.now in
    is_found (c.if-text-lt-LANES.false, omega (arith, run, c.if-count-eq1.false))

pub returns-clause-digits : goal.returns-clause-digits
returns-clause-digits c =
    let run = c.hex_run-count.ensures.run ∙ run-take is_hex_digit 16 c.args.text.now in
    omega (arith, run, c.if-count-eq1.false)

pub returns-clause-bytes : goal.returns-clause-bytes
returns-clause-bytes c =
    let number = c.from_le_bytes-number in
    bytes_read c.args.text.now _ number.result c.if-text-lt-LANES.false (omega (arith, c.hex_run-count.ensures.run, c.if-count-eq1.false)) (omega (arith, c.hex_run-count.ensures.within))
    (number.ensures ∙ ap (from_le_bytes w64) (c.join.ensures ∙ ap joined c.nibbles.ensures))
