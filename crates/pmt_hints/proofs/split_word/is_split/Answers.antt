use Rattle.std.proofs.Common.{◌≡◌, false, sym, ap, ◌∙◌}
use Rattle.pmt_hints.specs.GoingOn.{may_join}
use Rattle.pmt_hints.proofs.SplitLemmas.{never-split}
use Rattle.pmt_hints.proofs.split_word.is_split.Goals as goal

pub returns-then-not-may_join-clause-value : goal.returns-then-not-may_join-clause-value
returns-then-not-may_join-clause-value c =
    let T = c.args.trace.now in
    let second = c.in-Some.second in
    let off : may_join T.format second ≡ false = ap (λ f. may_join f second) (sym c.format.ensures.value) ∙ sym c.may_join.ensures ∙ c.if-not-may_join.true in
    sym (never-split T c.args.labels.now c.args.earlier c.args.thread c.args.number c.args.op second c.format.ensures.is_trace (sym c.part_of.ensures ∙ c.in-Some.is) off)
