use Rattle.std.proofs.Common.{refl, rules}
use Rattle.pmt_trimming.proofs.LengthLemmas.{hex-length}
use Rattle.pmt_trimming.proofs.line_len.hex_len.Goals as goal

pub returns-clause-value : goal.returns-clause-value
returns-clause-value c = hex-length c.args.number _ _ (search rules) refl refl
