use Rattle.pmt_parts.proofs.Prelude.{◌≡◌, ◌+◌, ◌<◌, suc, length, sym, ap, subst, arith, IsMet}
use Rattle.pmt_parts.proofs.MetLemmas.{op-at, ordered-within}
use Rattle.pmt_parts.proofs.aside.older_ordered.Goals as goal

pub loop-index-preserved : goal.loop-index-preserved
loop-index-preserved c =
    let T = c.args.trace.now in
    let l = c.loop-index in
    let inside : l.index < length c.events-events.result.now = omega (arith, c.loop-index-test.true) in
    let has = op-at T c.events-events.result.now l.index c.index-events-index.result c.events-events.ensures.value inside c.index-events-index.is in
    let next : l.index + 1 ≡ suc l.index = omega arith in
    record {
      from = omega (arith, l.invariant.from);
      met = subst (λ n. IsMet T c.args.place c.args.before n c.meet.new.self) (sym next) (c.in_ok-meet.ensures T c.args.place l.index next l.invariant.from has l.invariant.met);
    }

pub returns : goal.returns
returns c i =
    let met = c.loop-index.invariant.met in (
      λ has. ((met.aside i).0 has).0,
      λ x. (met.aside i).1 (x, omega (arith, ordered-within c.args.trace.now c.args.place c.args.before i x, c.loop-index-test.false, ap (λ es. length es) c.events-events.ensures.value)),
    )
