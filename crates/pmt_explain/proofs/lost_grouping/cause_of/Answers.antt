use Rattle.std.proofs.Common.{◌-◌, ◌<◌, length, subst, arith}
use Rattle.std.proofs.lemmas.Option.{slice_get-get_or}
use Rattle.pmt_explain.specs.CauseOf.{IsCauseOf}
use Rattle.pmt_explain.proofs.LostGroupLemmas.{cause-read}
use Rattle.pmt_explain.proofs.lost_grouping.cause_of.Goals as goal

pub returns-then-index-start : goal.returns-then-index-start
returns-then-index-start c =
    let k = c.args.store - 1 - c.args.start in
    let inside : c.args.store - 1 - c.args.start < length c.args.causes.now = omega arith in
    cause-read c.args.trace.now c.args.start c.args.causes.now c.args.store _ c.requires.causes (omega (arith, c.requires.first)) (slice_get-get_or c.args.causes.now k _ inside)

pub returns : goal.returns
returns c = subst (λ n. IsCauseOf c.args.trace.now n c.args.store c.cause.result) c.len.ensures.value c.cause.ensures
