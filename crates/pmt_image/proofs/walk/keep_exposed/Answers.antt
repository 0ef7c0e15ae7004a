use Rattle.pmt_image.proofs.Prelude.{rules, filter_same}
use Rattle.pmt_image.proofs.walk.keep_exposed.Goals as goal

pub returns : goal.returns
returns c = filter_same _ _ _ (λ x b f' k. search rules) _ _ c.retain.ensures.filtered
