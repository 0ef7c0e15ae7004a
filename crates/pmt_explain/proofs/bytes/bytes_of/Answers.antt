use Rattle.std.proofs.Common.{◌+◌, get_or, arith}
use Rattle.std.proofs.lemmas.Grind.{elements}
use Rattle.pmt_explain.specs.Crashes.{IsReadOf}
use Rattle.pmt_explain.proofs.KeptLemmas.{bytes-pushed, length-pushed}
use Rattle.pmt_explain.proofs.bytes.bytes_of.Goals as goal

pub loop-index-preserved : goal.loop-index-preserved
loop-index-preserved c =
    let T = c.args.trace.now in
    let k = c.loop-index.index in
    let old = c.loop-index.bytes.items in
    let new = c.push.new.self.items in
    let x = c.crash_byte.result in
    record {
      size = omega (arith, length-pushed c.loop-index.bytes.items c.push.new.self.items c.crash_byte.result c.in_ok-push.ensures.items, c.loop-index.invariant.size);
      each = bytes-pushed (λ j y. IsReadOf T (get_or c.args.stores.now j 0) (c.args.first + j) y) k old new x c.in_ok-push.ensures.items c.loop-index.invariant.size
          (record { byte = c.crash_byte.ensures.byte; none = c.crash_byte.ensures.none; some = c.crash_byte.ensures.some }) c.loop-index.invariant.each;
    }

pub returns : goal.returns
returns c = record { size = omega (arith, c.loop-index.invariant.size, c.loop-index-test.false, c.loop-index.auto.index-end); each = c.loop-index.invariant.each }

pub loop-index-init : goal.loop-index-init
loop-index-init c = grind (arith, elements)
