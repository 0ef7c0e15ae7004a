use Rattle.std.proofs.Common.{map, ap, ◌∙◌}
use Rattle.std.proofs.lemmas.Result.{IfOk-weaker}
use Rattle.pmt_trimming.specs.Passing.{flag_by}
use Rattle.pmt_trimming.proofs.SettlingLemmas.{are-flags}
use Rattle.pmt_trimming.proofs.pass.Pass.finish.Goals as goal

pub returns : goal.returns
returns c = IfOk-weaker c.flags.result _ _ (λ flags is T before. are-flags T c.args.self flags.items (is ∙ ap (map (λ m. flag_by m)) c.as_slice.ensures) before) c.flags.ensures
