-- At each return, what the reader answers of the field; and one digit more.
use Rattle.std.proofs.Common.{◌≡◌, ℕ, ◌+◌, ◌*◌, ◌<◌, ◌≤◌, length, take, get_or, sym, ap, ◌∙◌, subst, arith, take_all, below_more, Some, eqb-true}
use Rattle.std.proofs.lemmas.Bool.{eqb-false}
use Rattle.std.specs.Str.Parse.{digits_value}
use Rattle.pmt_text.specs.Judging.{capped, digit_of}
use Rattle.pmt_text.proofs.NumberReading.{reads-empty, reads-leading_zero, reads-other, reads-digits, capped-more}
use Rattle.pmt_text.proofs.number.read_number.Goals as goal
use Rattle.pmt_text.proofs.number.read_number.Goals.{else-field-eq48-via-then-field-eq48+else-field-gt1, else-field-eq48-via-else-field-eq48}

pub returns-then-is_empty : goal.returns-then-is_empty
returns-then-is_empty c = reads-empty c.args.base c.args.field.now c.requires (eqb-true _ _ (sym c.is_empty.ensures ∙ c.if-is_empty.true))

pub returns-then-field-gt1 : goal.returns-then-field-gt1
returns-then-field-gt1 c = reads-leading_zero c.args.base c.args.field.now c.requires (omega arith) (omega arith)

pub returns-then-digit-base : goal.returns-then-digit-base
returns-then-digit-base c =
    reads-other c.args.base c.args.field.now c.loop-byte.byte-index c.requires (omega arith)
    (subst (λ (d : ℕ). c.args.base ≤ d) c.digit-digit.ensures c.if-digit-base.true)

pub loop-byte-preserved : goal.loop-byte-preserved
loop-byte-preserved c =
    let low : digit_of (get_or c.args.field.now c.loop-byte.byte-index 0) < c.args.base = subst (λ (d : ℕ). d < c.args.base) c.digit-digit.ensures c.if-digit-base.false in (
      c.saturating_add-number.ensures
          ∙ ap (λ (m : ℕ). capped (m + c.digit-digit.result)) (c.saturating_mul.ensures ∙ ap (λ (n : ℕ). capped (n * c.args.base)) c.loop-byte.invariant.0)
          ∙ ap (λ (d : ℕ). capped (capped (capped (digits_value c.args.base (take c.loop-byte.byte-index c.args.field.now)) * c.args.base) + d)) c.digit-digit.ensures
          ∙ capped-more c.args.base c.args.field.now c.loop-byte.byte-index c.requires (omega arith) low,
      below_more (λ (k : ℕ). digit_of (get_or c.args.field.now k 0) < c.args.base) c.loop-byte.byte-index c.loop-byte.invariant.1 low,
    )

pub returns : goal.returns
returns c =
    let field = c.args.field.now in
    let all : c.loop-byte.byte-index ≡ length field = omega arith in
    ap (λ (n : ℕ). Some n) (c.loop-byte.invariant.0 ∙ ap (λ (xs : _). capped (digits_value c.args.base xs)) (take_all c.loop-byte.byte-index field (omega arith)))
    ∙ reads-digits c.args.base field c.requires (omega (arith, not_empty))
    (λ zero. elim c.else-field-eq48.branch [ else-field-eq48-via-then-field-eq48+else-field-gt1 w ↦ omega arith | else-field-eq48-via-else-field-eq48 w ↦ absurd (omega arith) ])
    (λ k l. c.loop-byte.invariant.1 k (omega arith))
  where
    not_empty : 0 < length c.args.field.now
    not_empty = omega (arith, eqb-false _ _ (sym c.is_empty.ensures ∙ c.if-is_empty.false))
