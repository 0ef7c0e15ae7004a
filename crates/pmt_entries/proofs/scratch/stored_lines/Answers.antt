use Rattle.std.proofs.Common.{refl, subst, arith}
use Rattle.std.proofs.lemmas.List.{take_all}
use Rattle.pmt_entries.specs.Sites.{AreAsked}
use Rattle.pmt_entries.proofs.ScratchLemmas.{asked-more}
use Rattle.pmt_entries.proofs.scratch.stored_lines.Goals as goal

pub loop-number-init : goal.loop-number-init
loop-number-init c = λ j l has at. absurd has

pub loop-number-preserved : goal.loop-number-preserved
loop-number-preserved c =
    asked-more c.args.trace.now c.args.stores.now c.loop-number.number-index _ c.line_stored.result c.loop-number.lines c.ask_for.new.claims c.loop-number-test.true refl c.line_stored.ensures c.in_ok-ask_for.ensures
    c.loop-number.invariant

pub returns : goal.returns
returns c = subst (λ ks. AreAsked c.args.trace.now ks c.loop-number.lines) (take_all c.loop-number.number-index c.args.stores.now (omega arith)) c.loop-number.invariant
