use Rattle.std.proofs.Common.{rules, ◌∙◌}
use Rattle.pmt_hints.proofs.PlaceLemmas.{has-none}
use Rattle.pmt_hints.proofs.places.Places.new.Goals as goal

pub returns : goal.returns
returns c = has-none c.no_places.result _ c.no_places.ensures.threads (c.no_places.ensures.labels ∙ c.in_ok-flags.ensures.items_if_clones_equal (λ y is. search rules)) c.no_places.ensures.rest
