use Rattle.std.proofs.Common.{rules, ◌∙◌}
use Rattle.pmt_fates.proofs.RowPlaceLemmas.{numbers-none}
use Rattle.pmt_fates.proofs.row_places.RowPlaces.new.Goals as goal

pub returns : goal.returns
returns c = numbers-none c.no_places.result _ c.no_places.ensures.threads (c.no_places.ensures.labels ∙ c.in_ok-numbers.ensures.items_if_clones_equal (λ y is. search rules)) c.no_places.ensures.rest
