use Rattle.std.proofs.Common.{◌++◌, List, map, refl, ap, ◌∙◌}
use Rattle.pmt_trimming.specs.LineQueues.{kept_texts}
use Rattle.pmt_trimming.specs.Passing.{flag_by}
use Rattle.pmt_trimming.specs.declared.pass.Mark.{Mark}
use Rattle.pmt_trimming.proofs.SettlingLemmas.{are-flags}
use Rattle.pmt_trimming.proofs.StreamLemmas.{left-whole}
use Rattle.pmt_trimming.proofs.whole_text.Whole.into_text.Goals as goal

pub returns : goal.returns
returns c = λ T is.
    let self = c.args.self in
    let told = c.into_text.ensures ∙ c.pop_kept.ensures ∙ ap (λ (ms : List Mark). self.held.text ++ kept_texts (map (λ m. flag_by m) ms) self.held.lines) c.marks.ensures in
    left-whole T _ is.waiting _ _ c.into_text.result.items is.lines (map (λ m. flag_by m) self.pass.marks.items, are-flags T self.pass _ refl is.pass, told) is.left
