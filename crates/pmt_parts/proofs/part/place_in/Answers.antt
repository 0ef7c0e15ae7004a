use Rattle.std.proofs.Common.{arith}
use Rattle.pmt_parts.proofs.PickLemmas.{place-next-in, place-next-out}
use Rattle.pmt_parts.proofs.part.place_in.Goals as goal

pub loop-number-preserved : goal.loop-number-preserved
loop-number-preserved c =
    let K = c.args.numbers.now in
    let i = c.loop-number.number-index in
    elim c.if-number-place.branch [
      | goal.then-number-place w ↦ let next = place-next-in K i c.args.place c.loop-number-test.true w.if-number-place.true in (omega (arith, w.count-is, c.loop-number.invariant.0, next), omega (arith, w.count-is, c.loop-number.invariant.1))
      | goal.else-number-place w ↦ let next = place-next-out K i c.args.place c.loop-number-test.true w.if-number-place.false in (omega (arith, w.count-is, c.loop-number.invariant.0, next), omega (arith, w.count-is, c.loop-number.invariant.1))
    ]
