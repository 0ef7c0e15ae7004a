-- Four digits, three, two and one.
use Rattle.std.proofs.Common.{◌%◌, ℕ, List, [], ◌∷◌, refl, sym, ap, ◌∙◌, subst, arith, inr}
use Rattle.pmt_text.specs.Spelling.{Puts, hex_pair}
use Rattle.pmt_text.proofs.LinePutting.{put-then, put-fewer}
use Rattle.pmt_text.proofs.NumberWriting.{numeral-digit, numeral-two, numeral-three, numeral-four}
use Rattle.pmt_text.proofs.line_text.put_short.Goals as goal

pub returns-then-number-ge4096 : goal.returns-then-number-ge4096
returns-then-number-ge4096 c = rw (numeral-four c.args.number c.if-number-ge4096.true c.requires.small) c.put_four.ensures.puts

pub returns-then-number-ge256 : goal.returns-then-number-ge256
returns-then-number-ge256 c =
    let line = c.args.line.now in
    let digit = ap (λ (d : ℕ). d ∷ []) c.glyph.ensures in
    rw (numeral-three c.args.number c.if-number-ge256.true (omega arith))
    (put-fewer 4 (put-then line c.put_pair-at.new.line c.put.new.line c.args.at c.put_pair-at.result c.put.result 3 2 1 (hex_pair (c.args.number % 256)) _ c.put_pair-at.ensures.puts
    (subst (λ (xs : List ℕ). Puts c.put_pair-at.new.line c.put_pair-at.result xs 1 c.put.result c.put.new.line) digit c.put.ensures.puts) refl) (omega arith))

pub returns-then-number-ge16 : goal.returns-then-number-ge16
returns-then-number-ge16 c = rw (numeral-two c.args.number c.if-number-ge16.true (omega arith)) (put-fewer 4 c.put_pair.ensures.puts (omega arith))

pub returns : goal.returns
returns c =
    let digit = ap (λ (d : ℕ). d ∷ []) c.glyph-2.ensures ∙ sym (numeral-digit 16 c.args.number (inr refl) (omega arith)) in
    put-fewer 4 (subst (λ (xs : List ℕ). Puts c.args.line.now c.args.at xs 1 c.put-2.result c.put-2.new.line) digit c.put-2.ensures.puts) (omega arith)
