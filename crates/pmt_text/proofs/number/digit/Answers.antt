-- The table is held against the definition at each of the 256 bytes, by computing.
use Rattle.std.proofs.Common.{◌≡◌, ℕ, ◌<◌, true, ◌==◌, get_or, refl, arith, eqb-true}
use Rattle.std.proofs.lemmas.Bool.{agree_below_at}
use Rattle.pmt_text.specs.declared.number.TheConstants.{DIGITS}
use Rattle.pmt_text.specs.Judging.{digit_of}
use Rattle.pmt_text.proofs.number.digit.Goals as goal

in_table : (c : ℕ) → c < 256 → get_or DIGITS c 0 ≡ digit_of c
in_table c l = eqb-true _ _ (agree_below_at (λ n. get_or DIGITS n 0 == digit_of n) (λ _. true) 256 c refl l)

pub returns : goal.returns
returns c = in_table c.args.byte (omega arith)
