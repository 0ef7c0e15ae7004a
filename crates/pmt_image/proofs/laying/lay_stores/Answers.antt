use Rattle.pmt_image.proofs.Prelude.{sym, arith, take_all}
use Rattle.pmt_image.proofs.LayLemmas.{are_laid-none, are_laid-next, are_laid-all}
use Rattle.pmt_image.proofs.laying.lay_stores.Goals as goal

pub loop-index-init : goal.loop-index-init
loop-index-init c = are_laid-none c.args.at c.args.stores.now c.args.bytes.now

pub loop-index-preserved : goal.loop-index-preserved
loop-index-preserved c =
    are_laid-next c.args.at c.args.stores.now c.loop-index.index c.index-stores-index.result c.args.bytes.now c.loop-index.bytes c.lay_store.new.bytes (omega (arith, c.loop-index-test.true)) (sym c.index-stores-index.is)
    c.lay_store.auto.bytes c.lay_store.ensures c.loop-index.invariant

pub returns : goal.returns
returns c = are_laid-all c.args.at c.args.stores.now c.loop-index.index c.args.bytes.now c.loop-index.bytes (take_all c.loop-index.index c.args.stores.now (omega (arith, c.loop-index-test.false))) c.loop-index.invariant
