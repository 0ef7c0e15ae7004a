use Rattle.pmt_image.proofs.Prelude.{List, ap, ◌∙◌, nat_lt, filter, LineStores, fronts_off}
use Rattle.pmt_image.proofs.NearLemmas.{map-kept}
use Rattle.pmt_image.proofs.near.near_choices.Goals as goal

pub returns-clause-counts : goal.returns-clause-counts
returns-clause-counts c =
    let seen = map-kept c.in_ok-off_counts.off_counts.items (λ choice. choice.items) (λ choice. nat_lt c.args.most (fronts_off c.args.lines.now choice)) in
    rw c.keep_farther.ensures (seen ∙ ap (λ (xs : List (List LineStores)). filter (λ choice. nat_lt c.args.most (fronts_off c.args.lines.now choice)) xs) c.in_ok-off_counts.ensures)
