use Rattle.std.proofs.Common.{refl, ap, ◌∙◌, arith}
use Rattle.std.proofs.lemmas.List.{take_all}
use Rattle.pmt_hints.specs.Contrasts.{as_asked, is_asked, nothing}
use Rattle.pmt_hints.proofs.ContrastLemmas.{ask-up}
use Rattle.pmt_hints.proofs.contrast.asked_counts.Goals as goal

pub loop-hint-init : goal.loop-hint-init
loop-hint-init c = λ s. rw c.new-counts.ensures.empty refl

pub loop-hint-preserved : goal.loop-hint-preserved
loop-hint-preserved c = λ s.
    ask-up c.args.trace.now c.args.labels.now c.args.nexts.now c.args.hints.now c.loop-hint.hint-index s _ c.spot_of.result _ _ c.loop-hint-test.true c.spot_of.ensures (c.in_ok-ask.ensures s) (c.loop-hint.invariant s)

pub returns : goal.returns
returns c = λ s.
    c.loop-hint.invariant s ∙ ap (λ hs. as_asked (is_asked c.args.trace.now c.args.labels.now c.args.nexts.now hs s) nothing) (take_all c.loop-hint.hint-index c.args.hints.now (omega arith))
