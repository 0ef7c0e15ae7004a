use Rattle.std.proofs.Common.{rules}
use Rattle.std.proofs.lemmas.Fn.{filter_same}
use Rattle.pmt_explain.specs.declared.overwritten_grouping.Overwriting.{Overwriting}
use Rattle.pmt_explanation.specs.Explaining.{is_pair_asked}
use Rattle.pmt_explanation.proofs.asking.keep_asked_pairs.Goals as goal

pub returns : goal.returns
returns c =
    filter_same _ (λ (p : Overwriting). is_pair_asked c.args.trace.now c.args.labels.now c.args.choice.now p) _ (λ p b f h. (search rules, search rules)) c.args.pairs.now.items c.retain.new.self.items
    c.retain.ensures.filtered
