use Rattle.std.proofs.Common.{subst}
use Rattle.std.specs.List.{filter_map}
use Rattle.pmt_explanation.specs.Prelude.{AreGrouped, lost_item, AreLostGroups, NeverPersisted}
use Rattle.pmt_explanation.specs.Explaining.{asked_numbers}
use Rattle.pmt_explanation.proofs.losses.losses_of.Goals as goal

pub returns-clause-groups : goal.returns-clause-groups
returns-clause-groups c =
    subst (λ T. AreLostGroups T (asked_numbers T c.args.labels.now c.args.choice.now NeverPersisted c.args.stores.now) c.in_ok-groups.groups.items) c.trace-trace.ensures.value c.in_ok-groups.ensures

pub returns-clause-causes : goal.returns-clause-causes
returns-clause-causes c =
    subst (λ T. AreGrouped (filter_map (lost_item T c.args.frames.now) c.in_ok-groups.groups.items) c.in_ok-causes.causes.items) c.trace-trace.ensures.value
    (subst (λ gs. AreGrouped (filter_map (lost_item c.trace-trace.result.now c.args.frames.now) gs) c.in_ok-causes.causes.items) c.as_slice.ensures.value c.in_ok-causes.ensures)
