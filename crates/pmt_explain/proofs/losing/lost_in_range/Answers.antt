use Rattle.std.proofs.Common.{refl, arith, eqb}
use Rattle.std.proofs.lemmas.List.Filters.{dedup_is}
use Rattle.pmt_explain.proofs.LostInLemmas.{lost-in}
use Rattle.pmt_explain.proofs.losing.lost_in_range.Goals as goal

pub returns : goal.returns
returns c =
    lost-in c.args.trace.now c.min-place.result c.args.failure.now.place c.min.result c.args.number c.args.range.addr c.args.range c.full_line_of-full.result _ c.in_ok-last.last.items c.as_slice-2.result.now c.in_ok-lost.lost.items c.sort_unstable.new.self.items c.dedup.new.self.items
    (omega (arith, c.min-place.ensures)) (omega (arith, c.min.ensures)) refl c.full_line_of-full.ensures c.in_ok-last.ensures.size c.in_ok-last.ensures.last c.as_slice-2.ensures.value c.in_ok-lost.ensures c.sort_unstable.ensures.permutation c.sort_unstable.ensures.sorted
    (dedup_is eqb c.sort_unstable.new.self.items c.dedup.new.self.items c.dedup.ensures.filtered)
