-- The bytes of the number are those that it was made of.
use Rattle.std.proofs.Common.{refl, arith}
use Rattle.std.proofs.lemmas.Nat.{le_bytes_4}
use Rattle.pmt_text.specs.Spelled.{front_four}
use Rattle.pmt_text.proofs.FrontReading.{four-low}
use Rattle.pmt_text.proofs.spelled.first_four.Goals as goal

pub returns : goal.returns
returns c = le_bytes_4 (front_four c.args.text.now) _ refl (four-low c.args.text.now (λ i. omega (arith, c.type_inv.text i))) c.from_le_bytes.ensures
