-- The run of digits ends among the first sixteen bytes.
use Rattle.std.proofs.Common.{ℕ, List, subst, sym, ap, ◌∙◌, take, arith, w64}
use Rattle.std.specs.Int.{from_be_bytes}
use Rattle.std.specs.Int.Digits.{AllBelowBase}
use Rattle.pmt_lanes.specs.Digits.{is_hex_digit, joined}
use Rattle.pmt_lanes.proofs.DigitLemmas.{nibbles-lt, number_read}
use Rattle.pmt_lanes.proofs.RunLemmas.{is_found, not_found, run-take}
use Rattle.pmt_lanes.proofs.hex.hex_number.Goals.{else-text-eq48-via-then-text-eq48+else-count-ne1, else-text-eq48-via-else-text-eq48}
use Rattle.pmt_lanes.proofs.hex.hex_number.Goals as goal

pub returns-then-count-eq-LANES-clause-found : goal.returns-then-count-eq-LANES-clause-found
returns-then-count-eq-LANES-clause-found c =
    let run = c.hex_run-count.ensures.run ∙ run-take is_hex_digit 16 c.args.text.now in
    not_found (λ a. omega (arith, run, a.1.1, c.if-count-eq-LANES.true))

pub join-requires : goal.join-requires
join-requires c = subst (λ (ds : List ℕ). AllBelowBase 16 ds) (sym c.nibbles.ensures) (nibbles-lt (take 16 c.args.text.now))

pub returns-clause-found : goal.returns-clause-found
returns-clause-found c =
    let run = c.hex_run-count.ensures.run ∙ run-take is_hex_digit 16 c.args.text.now in
    is_found (
      c.if-text-lt-LANES.false,
      (
        omega (arith, run, c.if-count-eq0.false),
        omega (arith, run, c.if-count-eq-LANES.false, c.hex_run-count.ensures.within),
        λ zero. elim c.else-text-eq48.branch [
          | else-text-eq48-via-then-text-eq48+else-count-ne1 w ↦ omega (arith, run, w.if-count-ne1.false)
          | else-text-eq48-via-else-text-eq48 w ↦ absurd (w.if-text-eq48.false zero)
        ],
      ),
    )

pub returns-clause-digits : goal.returns-clause-digits
returns-clause-digits c =
    let run = c.hex_run-count.ensures.run ∙ run-take is_hex_digit 16 c.args.text.now in
    omega (arith, run, c.if-count-eq-LANES.false, c.hex_run-count.ensures.within)

pub returns-clause-value : goal.returns-clause-value
returns-clause-value c =
    let number = c.from_be_bytes-number in
    number_read c.args.text.now c.hex_run-count.result number.result c.if-text-lt-LANES.false c.hex_run-count.ensures.run c.hex_run-count.ensures.within
    (number.ensures ∙ ap (from_be_bytes w64) (c.join.ensures ∙ ap joined c.nibbles.ensures))
