-- Two digits on; and the first digit, or the first two.
use Rattle.std.proofs.Common.{◌≡◌, ℕ, suc, ◌+◌, ◌-◌, ◌/◌, ◌%◌, ◌^◌, ◌<◌, ◌≤◌, ◌++◌, drop, refl, ap, ◌∙◌, subst, arith, inl}
use Rattle.pmt_text.specs.Spelling.{glyph, numeral}
use Rattle.pmt_text.proofs.NumberWriting.{room-two, room-three, room-quotient}
use Rattle.pmt_text.proofs.LinePutting.{digit-more, digit-last}
use Rattle.pmt_text.proofs.line_text.put_decimal.Goals as goal

pub loop-rest-preserved : goal.loop-rest-preserved
loop-rest-preserved c =
    let l = c.loop-rest in
    let p = c.put-last.ensures in
    let q = c.put-start.ensures in
    let first = p.before in
    let second = q.before in
    let later = drop c.args.at c.args.line.now in
    let room : ℕ = l.start + 20 - c.args.at in
    let left : ℕ = c.put-start.result + 20 - c.args.at in
    let many : 100 ≤ l.rest = omega arith in
    let three : 3 ≤ room = room-three l.rest room many l.invariant.3 in
    let less : room ≡ suc (suc left) = omega (arith, three, first, second) in
    let below : l.rest / 10 < 10 ^ suc left = room-quotient 10 l.rest (suc left) (inl refl) (subst (λ (m : ℕ). l.rest < 10 ^ m) less l.invariant.3) in
    let both : l.rest / 10 / 10 ≡ l.rest / 100 = omega arith in
    let one : c.ones.result ≡ glyph (l.rest % 10) = c.ones.ensures ∙ ap glyph (omega arith) in
    let ten : c.tens.result ≡ glyph (l.rest / 10 % 10) = c.tens.ensures ∙ ap glyph (omega arith) in
    let after = digit-more 10 c.args.number l.rest l.start c.put-last.result c.ones.result later l.line c.put-last.new.line (inl refl) (omega arith) one p.puts l.invariant.4 in
    let then = digit-more 10 c.args.number (l.rest / 10) c.put-last.result c.put-start.result c.tens.result later c.put-last.new.line c.put-start.new.line (inl refl) (omega (arith, many)) ten q.puts after in (
      q.puts.long,
      omega (arith, first, second, l.invariant.1),
      omega (arith, first, second, three),
      subst (λ (n : ℕ). n < 10 ^ left) both (room-quotient 10 (l.rest / 10) left (inl refl) below),
      subst (λ (n : ℕ). numeral 10 c.args.number ++ later ≡ numeral 10 n ++ drop c.put-start.result c.put-start.new.line) both then,
    )

pub returns-then-rest-lt10 : goal.returns-then-rest-lt10
returns-then-rest-lt10 c =
    let l = c.loop-rest in
    let p = c.put.ensures in
    let back = p.before in
    let below = l.invariant.1 in
    let room = l.invariant.2 in
    record {
      put = digit-last 10 c.args.number l.rest l.start c.put.result c.glyph.result (drop c.args.at c.args.line.now) l.line c.put.new.line (inl refl) (omega arith) c.glyph.ensures p.puts l.invariant.4;
      before = omega (arith, back, below);
      few = omega (arith, back, room);
      long = p.puts.long;
    }

pub returns : goal.returns
returns c =
    let l = c.loop-rest in
    let p = c.put-start-2.ensures in
    let q = c.put-2.ensures in
    let first = p.before in
    let second = q.before in
    let below = l.invariant.1 in
    let later = drop c.args.at c.args.line.now in
    let room : ℕ = l.start + 20 - c.args.at in
    let many : 10 ≤ l.rest = omega arith in
    let two : 2 ≤ room = room-two l.rest room many l.invariant.3 in
    let small : l.rest / 10 < 10 = omega arith in
    let ten : c.tens-2.result ≡ glyph (l.rest / 10) = c.tens-2.ensures in
    let after = digit-more 10 c.args.number l.rest l.start c.put-start-2.result c.ones-2.result later l.line c.put-start-2.new.line (inl refl) many c.ones-2.ensures p.puts l.invariant.4 in
    record {
      put = digit-last 10 c.args.number (l.rest / 10) c.put-start-2.result c.put-2.result c.tens-2.result later c.put-start-2.new.line c.put-2.new.line (inl refl) small ten q.puts after;
      before = omega (arith, first, second, below);
      few = omega (arith, first, second, two);
      long = q.puts.long;
    }
