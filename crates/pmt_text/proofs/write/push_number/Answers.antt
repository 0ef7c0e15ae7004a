-- One digit on; and the first digit.
use Rattle.std.proofs.Common.{◌≡◌, ℕ, suc, ◌-◌, ◌^◌, ◌<◌, ◌≤◌, subst, arith, rules, length-set}
use Rattle.std.proofs.lemmas.List.{take_rest}
use Rattle.pmt_text.proofs.NumberWriting.{room-two, room-quotient, base-ten, write-step, write-last}
use Rattle.pmt_text.proofs.write.push_number.Goals as goal

pub loop-rest-preserved : goal.loop-rest-preserved
loop-rest-preserved c =
    let l = c.loop-rest in
    let ten = base-ten c.args.base c.requires in
    let two : 2 ≤ l.at = room-two l.rest l.at (omega arith) l.invariant.3 in
    let back : l.at ≡ suc (l.at - 1) = omega arith in (
      omega (arith, length-set l.digits (l.at - 1) c.glyph.result),
      omega arith,
      omega arith,
      room-quotient c.args.base l.rest (l.at - 1) c.requires (subst (λ (m : ℕ). l.rest < 10 ^ m) back l.invariant.3),
      write-step c.args.base c.args.number l.rest l.digits l.at c.glyph.result c.requires (omega arith) (omega arith) (omega arith) c.glyph.ensures l.invariant.4,
    )

pub returns : goal.returns
returns c =
    let l = c.loop-rest in
    let written = write-last c.args.base c.args.number l.rest l.digits l.at c.glyph-2.result c.requires c.loop-rest-test.false (omega arith) (omega arith) c.glyph-2.ensures l.invariant.4 in
    rw written (search (rules, take_rest))
