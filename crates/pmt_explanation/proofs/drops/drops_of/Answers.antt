use Rattle.std.proofs.Common.{List, subst}
use Rattle.std.specs.List.{filter_map}
use Rattle.pmt_entries.specs.Prelude.{Dropped, dropped_item, AreGrouped}
use Rattle.pmt_explanation.proofs.drops.drops_of.Goals as goal

pub returns : goal.returns
returns c = record {
  asked = c.in_ok-asked.ensures;
  groups = subst (λ (ds : List Dropped). AreGrouped (filter_map (dropped_item c.args.trace.now c.args.numbers.now) ds) c.in_ok-groups.groups.items) c.as_slice.ensures.value c.in_ok-groups.ensures;
}
