-- The table is held against the definition at each of the 256 bytes, by computing.
use Rattle.std.proofs.Common.{◌≡◌, ℕ, ◌+◌, ◌*◌, ◌%◌, ◌<◌, true, ◌==◌, get_or, refl, arith, eqb-true}
use Rattle.std.proofs.lemmas.Bool.{agree_below_at}
use Rattle.pmt_text.specs.declared.line_text.TheConstants.{PAIRS}
use Rattle.pmt_text.specs.Spelling.{glyph}
use Rattle.pmt_text.proofs.line_text.low_digit.Goals as goal

in_table : (b : ℕ) → b < 256 → get_or PAIRS (2 * b + 1) 0 ≡ glyph (b % 16)
in_table b l = eqb-true _ _ (agree_below_at (λ n. get_or PAIRS (2 * n + 1) 0 == glyph (n % 16)) (λ _. true) 256 b refl l)

pub returns : goal.returns
returns c = in_table c.args.byte (omega arith)
