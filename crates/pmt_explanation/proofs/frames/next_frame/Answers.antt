use Rattle.std.proofs.Common.{rules, ◌≡◌, ◌+◌, Some, sym, ap, subst, ◌∙◌}
use Rattle.pmt_asked.specs.Choosing.{frame_of, label_of}
use Rattle.pmt_explanation.specs.Summing.{IsFrameNumber, IsLabelNumber, first_in}
use Rattle.pmt_explanation.proofs.FramingLemmas.{frame-by, number-before, number-new}
use Rattle.pmt_explanation.proofs.frames.next_frame.Goals as goal

pub returns-then-first-events-clause-number : goal.returns-then-first-events-clause-number
returns-then-first-events-clause-number c =
    let own : IsLabelNumber c.args.labels.now (c.args.events + 1) (Some c.in-Some.first) = search rules in
    number-before c.args.labels.now c.args.events c.in-Some.first c.args.frames.now own c.requires.frames c.requires.size c.if-first-events.true

pub returns-clause-number : goal.returns-clause-number
returns-clause-number c =
    let labels = c.args.labels.now in
    let n = c.args.events in
    let f = c.frame_of.result.now in
    let own : IsLabelNumber c.args.labels.now (c.args.events + 1) (Some c.in-Some.first) = search rules in
    let at : label_of c.args.labels.now c.in-Some.first ≡ Some c.as_str.result.now = search rules in
    let has : frame_of labels (n + 1) ≡ Some f = frame-by labels n c.in-Some.first c.as_str.result.now own at ∙ ap Some (sym c.frame_of.ensures) in
    subst (λ m. IsFrameNumber labels (n + 1) (Some m)) (sym c.in_ok-frame.ensures.first) (number-new labels n f (first_in c.args.firsts.now f) has (c.requires.before f))
