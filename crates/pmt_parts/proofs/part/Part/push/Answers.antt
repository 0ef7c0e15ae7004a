use Rattle.std.proofs.Common.{refl, rules}
use Rattle.pmt_parts.proofs.GrowLemmas.{part-pushed}
use Rattle.pmt_parts.proofs.part.Part.push.Goals as goal

pub returns-clause-part : goal.returns-clause-part
returns-clause-part c T ranges it comes = part-pushed T ranges c.args.self.now _ c.args.event refl refl refl c.in_ok-push.ensures.items c.in_ok-add.ensures.added it comes

pub returns-clause-end : goal.returns-clause-end
returns-clause-end c = search rules
