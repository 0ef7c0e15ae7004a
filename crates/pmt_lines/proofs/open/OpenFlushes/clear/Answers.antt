use Rattle.std.proofs.Common.{◌∙◌, ap, set, map}
use Rattle.std.proofs.lemmas.List.{map-set}
use Rattle.pmt_lines.proofs.open.OpenFlushes.clear.Goals as goal

pub returns : goal.returns
returns c =
    let places = c.self.inside.places.items in
    rw (← c.self.view_is) (map-set (λ v. v.items) places c.args.thread c.clear.new.self ∙ ap (set (map (λ v. v.items) places) c.args.thread) c.clear.ensures.items)
