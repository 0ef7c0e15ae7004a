use Rattle.std.proofs.Common.{◌≡◌, suc, ◌+◌, subst, arith}
use Rattle.std.specs.Prelude.{slice_index}
use Rattle.std.proofs.lemmas.Option.{slice_get_within, slice_get-get_or}
use Rattle.pmt_tables.specs.Slots.{IsReached}
use Rattle.pmt_tables.proofs.CellLemmas.{indexed-next}
use Rattle.pmt_tables.proofs.line_slots.indexed.Goals as goal

pub loop-slot-preserved : goal.loop-slot-preserved
loop-slot-preserved c =
    let lines = c.args.lines.now in
    let slot = c.loop-slot.slot in
    let e : slot + 1 ≡ suc slot = omega arith in
    let here = subst (λ n. IsReached c.put.new.cells.items (slice_index lines slot) n) e (c.put.ensures.reached c.if-not-put.false) in
    indexed-next c.loop-slot.cells.items c.put.new.cells.items c.put.ensures.others lines slot (slice_index lines slot) (slice_get-get_or lines slot 0 c.loop-slot-test.true) c.loop-slot.invariant here

pub returns : goal.returns
returns c = λ slot l at. c.loop-slot.invariant slot l (omega (arith, slice_get_within c.args.lines.now slot l at, c.loop-slot-test.false)) at
