use Rattle.std.proofs.Common.{◌≡◌, suc, ◌+◌, ◌++◌, ◌∷◌, [], length, sym, ap, subst, ◌∙◌, arith}
use Rattle.pmt_tables.specs.Slots.{AreIndexed, IsReached}
use Rattle.pmt_tables.proofs.ListLemmas.{not-among}
use Rattle.pmt_tables.proofs.CellLemmas.{indexed-push}
use Rattle.pmt_tables.proofs.line_slots.add.Goals as goal

pub returns-then-not-put-clause-indexed : goal.returns-then-not-put-clause-indexed
returns-then-not-put-clause-indexed c =
    let are = subst (λ ls. AreIndexed ls c.make_room.new.cells.items) c.as_slice.ensures.value c.make_room.ensures in
    (are.0, λ slot l at. c.put.ensures.others l (suc slot) (omega arith) (are.1 slot l at))

pub returns-clause-indexed : goal.returns-clause-indexed
returns-clause-indexed c =
    let line = c.args.line in
    let cells = c.put.new.cells.items in
    let are = subst (λ ls. AreIndexed ls c.make_room.new.cells.items) (c.as_slice.ensures.value ∙ c.reserve.ensures.items) c.make_room.ensures in
    let next : c.len-slot.result + 1 ≡ suc (length c.args.lines.now.items) = omega (arith, c.len-slot.ensures) in
    let here = subst (λ n. IsReached cells line n) next (c.put.ensures.reached c.if-not-put.false) in
    subst (λ ls. AreIndexed ls cells) (sym (c.push_reserved.ensures.items ∙ ap (λ ls. ls ++ line ∷ []) c.reserve.ensures.items))
    (indexed-push c.make_room.new.cells.items cells c.put.ensures.others c.args.lines.now.items line are (not-among c.args.lines.now.items line c.requires.new) here)

pub returns-clause-absent : goal.returns-clause-absent
returns-clause-absent c = not-among c.args.lines.now.items c.args.line c.requires.new
