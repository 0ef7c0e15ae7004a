use Rattle.std.proofs.Common.{◌<◌, length, arith}
use Rattle.pmt_lines.proofs.PlaceLemmas.{map-set_more}
use Rattle.pmt_lines.proofs.open.OpenFlushes.add.Goals as goal

pub returns : goal.returns
returns c =
    let places = c.self.inside.places.items in
    let within : c.args.thread < length places = omega arith in
    rw (← c.self.view_is) (map-set_more (λ v. v.items) places c.args.thread c.index_mut.result.now c.push.new.self c.args.place within c.index_mut.ensures.value c.in_ok-push.ensures.items)
