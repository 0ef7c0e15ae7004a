use Rattle.std.proofs.Common.{◌∙◌, subst}
use Rattle.pmt_causes.specs.Groups.{AreGrouped}
use Rattle.pmt_entries.proofs.LossLemmas.{key-exact}
use Rattle.pmt_entries.proofs.losses.losses_of.Goals as goal

pub groups-requires : goal.groups-requires
groups-requires c = record { exact = key-exact }

pub returns : goal.returns
returns c =
    let groups = c.in_ok-losses.losses.items in
    (groups, subst (λ items. AreGrouped items groups) (c.as_slice.ensures.value ∙ c.in_ok-items.ensures) c.in_ok-losses.ensures, c.in_ok-sort.ensures)
