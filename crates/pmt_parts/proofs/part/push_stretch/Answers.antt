use Rattle.pmt_parts.proofs.Prelude.{inr, arith, elements}
use Rattle.pmt_parts.proofs.ChosenLemmas.{stretch-pushed}
use Rattle.pmt_parts.proofs.part.push_stretch.Goals as goal

pub loop-number-preserved : goal.loop-number-preserved
loop-number-preserved c =
    let l = c.loop-number in
    record {
      items = stretch-pushed c.args.numbers.now.items l.numbers.items c.push.new.self.items c.args.place l.number l.invariant.from l.invariant.items c.in_ok-push.ensures.items;
      from = omega (arith, l.invariant.from);
      by = inr (omega (arith, c.loop-number-test.true));
    }

pub returns-in_err-push : goal.returns-in_err-push
returns-in_err-push c = grind (arith, elements)
