use Rattle.std.proofs.Common.{◌+◌, subst, sym}
use Rattle.pmt_asserts.proofs.BuildLemmas.{HasUpTo, has-none, has-more, has-all}
use Rattle.pmt_asserts.proofs.build.add_writes.Goals as goal

pub loop-byte-init : goal.loop-byte-init
loop-byte-init c = has-none c.args.writes.now.items c.args.rank c.args.put.addr

pub loop-byte-preserved : goal.loop-byte-preserved
loop-byte-preserved c =
    subst (λ ws. HasUpTo c.args.writes.now.items ws c.args.rank c.args.put.addr (c.loop-byte.byte + 1)) (sym c.in_ok-push.ensures.items)
    (has-more c.args.writes.now.items c.loop-byte.writes.items c.args.rank c.args.put.addr c.loop-byte.byte c.loop-byte.auto.byte c.loop-byte.invariant)

pub returns : goal.returns
returns c = has-all c.args.writes.now.items c.loop-byte.writes.items c.args.rank c.loop-byte.byte c.args.put c.loop-byte-test.false c.loop-byte.auto.byte-end c.loop-byte.invariant
