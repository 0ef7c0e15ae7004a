use Rattle.std.proofs.Common.{arith, refl, subst}
use Rattle.pmt_asserts.specs.Puts.{puts_of, IsLesser}
use Rattle.pmt_asserts.proofs.RankLemmas.{least-none, least-more, least-end}
use Rattle.pmt_asserts.proofs.table.LineTable.least.Goals as goal

pub loop-byte-init : goal.loop-byte-init
loop-byte-init c = (least-none (puts_of c.args.self.now.job.steps) c.args.count c.args.low, λ h. refl)

pub loop-byte-preserved : goal.loop-byte-preserved
loop-byte-preserved c =
    let low = c.loop-byte.auto.byte in
    let below = c.loop-byte-test.true in (
      least-more (puts_of c.args.self.now.job.steps) c.args.count c.args.low c.loop-byte.byte c.loop-byte.least c.lesser-least.result low c.loop-byte.invariant.0
          (subst (λ v. IsLesser c.loop-byte.least v c.lesser-least.result) c.last.ensures c.lesser-least.ensures),
      λ h. absurd (omega (arith, h, low, below)),
    )

pub returns : goal.returns
returns c =
    least-end (puts_of c.args.self.now.job.steps) c.args.count c.args.low c.loop-byte.byte c.args.high c.loop-byte.least c.loop-byte-test.false c.loop-byte.auto.byte-end
    c.loop-byte.invariant.1 c.loop-byte.invariant.0
