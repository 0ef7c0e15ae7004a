-- Proved in HeadlineLemmas.
use Rattle.std.proofs.Common.{refl}
use Rattle.pmt_model.specs.Selections.{cut}
use Rattle.pmt_trimming.proofs.HeadlineLemmas.{keep-is-trimmed}
use Rattle.pmt_trimming.proofs.laws.keep_is_trimmed.Goals as goal

pub returns : goal.returns
returns c = λ T K keep. keep-is-trimmed T K (cut T K) keep refl
