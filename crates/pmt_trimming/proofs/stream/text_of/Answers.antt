use Rattle.std.proofs.Common.{◌∙◌, List, Bool, ap, ◌++◌}
use Rattle.pmt_trimming.specs.LineQueues.{kept_texts}
use Rattle.pmt_trimming.proofs.stream.text_of.Goals as goal

pub returns : goal.returns
returns c = λ T passing. (
  c.in_ok-flags.flags.items,
  c.in_ok-flags.ensures T passing,
  c.into_text.ensures ∙ c.pop_kept.ensures ∙ ap (λ (bs : List Bool). c.args.queue.text ++ kept_texts bs c.args.queue.lines) c.as_slice.ensures.value,
)
