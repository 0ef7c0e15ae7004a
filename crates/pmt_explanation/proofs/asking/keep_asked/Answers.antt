use Rattle.std.proofs.Common.{rules}
use Rattle.std.proofs.lemmas.Fn.{filter_same}
use Rattle.pmt_explanation.specs.Prelude.{Keyed, LateSpot, is_asked_for, Late}
use Rattle.pmt_explanation.proofs.asking.keep_asked.Goals as goal

pub returns : goal.returns
returns c =
    filter_same _ (λ (x : Keyed LateSpot). is_asked_for c.args.trace.now c.args.labels.now c.args.choice.now Late x.number) _ (λ x b f h. (search rules, search rules)) c.args.items.now.items c.retain.new.self.items
    c.retain.ensures.filtered
