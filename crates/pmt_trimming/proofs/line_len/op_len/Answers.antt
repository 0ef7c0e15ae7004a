use Rattle.std.proofs.Common.{arith, ℕ, ◌∷◌, ◌∙◌, ap, length}
use Rattle.std.proofs.lemmas.Grind.{elements}
use Rattle.pmt_text.specs.Spelling.{address}
use Rattle.pmt_trimming.proofs.LengthLemmas.{store-length}
use Rattle.pmt_trimming.proofs.line_len.op_len.Goals as goal

pub returns-in-Store-clause-value : goal.returns-in-Store-clause-value
returns-in-Store-clause-value c = store-length c.args.op.now _ c.address_len.result _ c.in-Store.is (c.address_len.ensures.value ∙ ap (λ (a : ℕ). length (32 ∷ address a)) c.addr.ensures.value) (ap length c.bytes.ensures.value)

pub returns-in-IsOrderedBefore-clause-value : goal.returns-in-IsOrderedBefore-clause-value
returns-in-IsOrderedBefore-clause-value c = grind (arith, elements)
