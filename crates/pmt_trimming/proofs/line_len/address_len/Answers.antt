use Rattle.std.proofs.Common.{◌∙◌, ap, ℕ, length}
use Rattle.pmt_text.specs.Spelling.{numeral}
use Rattle.pmt_trimming.proofs.LengthLemmas.{address-length}
use Rattle.pmt_trimming.proofs.line_len.address_len.Goals as goal

pub returns-clause-value : goal.returns-clause-value
returns-clause-value c = address-length c.args.addr c.hex_len.result (c.hex_len.ensures.value ∙ ap (λ (n : ℕ). length (numeral 16 n)) c.get.ensures.value)
