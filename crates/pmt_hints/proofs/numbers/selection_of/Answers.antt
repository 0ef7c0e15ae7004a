use Rattle.pmt_tables.proofs.FlagLemmas.{rising-no_fall}
use Rattle.pmt_hints.proofs.numbers.selection_of.Goals as goal

pub unreachable-requires : goal.unreachable-requires
unreachable-requires c =
    let none = rising-no_fall 0 c.args.numbers.items c.requires in
    let some = c.in_default.ensures.judged in
    cc (none, some)
