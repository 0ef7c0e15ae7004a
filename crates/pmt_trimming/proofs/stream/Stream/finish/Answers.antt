use Rattle.std.proofs.Common.{◌∙◌}
use Rattle.std.proofs.lemmas.Result.{IfOk-weaker}
use Rattle.pmt_trimming.proofs.StreamLemmas.{left-ended}
use Rattle.pmt_trimming.proofs.stream.Stream.finish.Goals as goal

pub returns : goal.returns
returns c =
    IfOk-weaker c.text_of.result _ _
    (λ rest ends T text is. left-ended T _ is.waiting text _ _ rest.items (c.clear_text.ensures.lines ∙ is.lines) c.clear_text.ensures.text (ends T is.pass) is.left) c.text_of.ensures
