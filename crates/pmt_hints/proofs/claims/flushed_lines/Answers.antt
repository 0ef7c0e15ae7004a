use Rattle.std.proofs.Common.{refl, subst, arith}
use Rattle.std.proofs.lemmas.List.{take_all}
use Rattle.pmt_hints.specs.Claiming.{AreAsked}
use Rattle.pmt_hints.proofs.ClaimLemmas.{asked-more, asked-none}
use Rattle.pmt_hints.proofs.claims.flushed_lines.Goals as goal

pub loop-number-init : goal.loop-number-init
loop-number-init c = asked-none c.args.trace.now c.new-claims.result c.new-claims.ensures.empty

pub loop-number-preserved : goal.loop-number-preserved
loop-number-preserved c =
    asked-more c.args.trace.now c.args.flushes.now c.loop-number.number-index _ c.line_flushed.result c.loop-number.claims c.ask_for.new.claims c.loop-number-test.true refl c.line_flushed.ensures c.in_ok-ask_for.ensures
    c.loop-number.invariant

pub returns : goal.returns
returns c = subst (λ ks. AreAsked c.args.trace.now ks c.loop-number.claims) (take_all c.loop-number.number-index c.args.flushes.now (omega arith)) c.loop-number.invariant
