use Rattle.std.proofs.Common.{◌≡◌, [], sym, subst, arith, rules}
use Rattle.pmt_tables.specs.Slots.{AreIndexed}
use Rattle.pmt_tables.proofs.CellLemmas.{indexed-none}
use Rattle.pmt_tables.proofs.line_slots.LineSlots.new.Goals as goal

pub invariant_of-result : goal.invariant_of-result
invariant_of-result c =
    let none : c.new.result.items ≡ [] = search rules in
    (subst (λ ls. AreIndexed ls c.new-2.result.items) (sym none) (indexed-none c.new-2.result.items), omega arith)
