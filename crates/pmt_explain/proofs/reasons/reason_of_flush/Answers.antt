use Rattle.std.proofs.Common.{◌≡◌, ◌+◌, sym, subst, arith}
use Rattle.pmt_reasons.specs.Reasons.{IsReason}
use Rattle.pmt_explain.specs.Following.{past_of}
use Rattle.pmt_explain.proofs.ReasonLemmas.{flush-safe, flush-told}
use Rattle.pmt_explain.proofs.reasons.reason_of_flush.Goals as goal

pub returns-then-place-number : goal.returns-then-place-number
returns-then-place-number c = flush-safe c.args.trace.now c.args.thread c.args.line c.args.number c.requires.is c.args.place c.requires.place c.if-place-number.true

pub returns : goal.returns
returns c =
    let T = c.args.trace.now in
    let i = c.args.number in
    let past : c.len.result + 1 ≡ past_of T = omega (arith, c.len.ensures.value) in
    subst (IsReason T i) (sym c.reason_of_marking.ensures)
    (flush-told T c.args.thread c.args.line i c.args.place c.args.fence c.flushed_again-again.result (c.len.result + 1) c.requires.is c.requires.dropped c.requires.place c.if-place-number.false past c.requires.fence c.flushed_again-again.ensures)
