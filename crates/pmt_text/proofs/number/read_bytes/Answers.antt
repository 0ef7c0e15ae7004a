-- At each return, what the reader answers of the field; and one pair of digits more.
use Rattle.std.proofs.Common.{◌≡◌, ℕ, ◌+◌, ◌*◌, ◌<◌, ◌/◌, List, length, get_or, sym, ap, ap₂, ◌∙◌, arith, below_more, eqb-true}
use Rattle.std.proofs.lemmas.Bool.{eqb-false}
use Rattle.pmt_text.specs.Judging.{paired, digit_of}
use Rattle.pmt_text.proofs.FieldLemmas.{gives-none, gives-pairs, written_more, digit_of-le, get_or-paired_digits, bytes_in-empty, bytes_in-odd, bytes_in-no_digit}
use Rattle.pmt_text.proofs.number.read_bytes.Goals as goal
use Rattle.pmt_text.proofs.number.read_bytes.Goals.{then-is_empty-via-then-is_empty, then-is_empty-via-else-is_empty+then-field-eq1, then-high-eq16-via-then-high-eq16, then-high-eq16-via-else-high-eq16+then-low-eq16, then-i-lt8, else-i-lt8}

pub returns-then-is_empty-clause-given : goal.returns-then-is_empty-clause-given
returns-then-is_empty-clause-given c =
    gives-none c.args.field.now c.args.out.now
    (elim c.then-is_empty.branch [
      | then-is_empty-via-then-is_empty w ↦ bytes_in-empty c.args.field.now (eqb-true _ _ (sym c.is_empty.ensures ∙ w.if-is_empty.true))
      | then-is_empty-via-else-is_empty+then-field-eq1 w ↦ bytes_in-odd c.args.field.now w.if-field-eq1.true
    ])

pub returns-then-high-eq16-clause-given : goal.returns-then-high-eq16-clause-given
returns-then-high-eq16-clause-given c =
    gives-none c.args.field.now c.loop-i.out
    (elim c.then-high-eq16.branch [
      | then-high-eq16-via-then-high-eq16 w ↦ bytes_in-no_digit c.args.field.now (2 * c.loop-i.i) (omega arith) (omega arith)
      | then-high-eq16-via-else-high-eq16+then-low-eq16 w ↦ bytes_in-no_digit c.args.field.now (2 * c.loop-i.i + 1) (omega arith) (omega arith)
    ])

pub loop-i-preserved : goal.loop-i-preserved
loop-i-preserved c =
    let field = c.args.field.now in
    let i = c.loop-i.i in
    let high : digit_of (get_or field (2 * i) 0) < 16 = omega (arith, digit_of-le (get_or field (2 * i) 0)) in
    let low : digit_of (get_or field (2 * i + 1) 0) < 16 = omega (arith, digit_of-le (get_or field (2 * i + 1) 0)) in (
      c.if-i-lt8.array_long,
      below_more (λ (k : ℕ). digit_of (get_or field (2 * k) 0) < 16) i c.loop-i.invariant.1 high,
      below_more (λ (k : ℕ). digit_of (get_or field (2 * k + 1) 0) < 16) i c.loop-i.invariant.2 low,
      elim c.if-i-lt8.branch [
        | then-i-lt8 w ↦ written_more c.loop-i.out c.if-i-lt8.out (paired field) i _ c.loop-i.invariant.0 w.if-i-lt8.true c.loop-i.invariant.3 (ap₂ (λ (x y : ℕ). 16 * x + y) c.digit-high.ensures c.digit-low.ensures ∙ get_or-paired_digits field i (omega arith) high low) w.out-is
        | else-i-lt8 w ↦ λ k h s. ap (λ (xs : List ℕ). get_or xs k 0) w.out-is ∙ c.loop-i.invariant.3 k (omega arith) s
      ],
    )

pub returns-clause-given : goal.returns-clause-given
returns-clause-given c =
    let field = c.args.field.now in
    let even : length field ≡ length field / 2 + length field / 2 = omega arith in
    gives-pairs field c.loop-i.out (length field / 2) (omega (arith, eqb-false _ _ (sym c.is_empty.ensures ∙ c.if-is_empty.false))) even c.loop-i.invariant.0
    (λ k h. c.loop-i.invariant.1 k (omega arith)) (λ k h. c.loop-i.invariant.2 k (omega arith)) (λ k h s. c.loop-i.invariant.3 k (omega arith) s)
