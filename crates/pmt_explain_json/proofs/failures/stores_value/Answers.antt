use Rattle.std.proofs.Common.{arith}
use Rattle.pmt_explain_json.specs.Entries.{byte_store}
use Rattle.pmt_explain_json.proofs.Arrays.{array-of-all}
use Rattle.pmt_explain_json.proofs.Pushing.{value-pushed}
use Rattle.pmt_explain_json.proofs.failures.stores_value.Goals as goal

pub loop-byte-preserved : goal.loop-byte-preserved
loop-byte-preserved c =
    value-pushed byte_store c.args.bytes.now c.loop-byte.byte-index _ _ _ _ c.loop-byte-test.true c.loop-byte.invariant c.store_value.ensures c.in_ok-push.ensures.items

pub returns : goal.returns
returns c = array-of-all byte_store c.args.bytes.now c.loop-byte.byte-index c.loop-byte.values c.loop-byte.invariant (omega (arith, c.loop-byte-test.false))
