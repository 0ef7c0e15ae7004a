-- The table is held against the definition at each of the 100 numbers, by computing.
use Rattle.std.proofs.Common.{◌≡◌, ℕ, ◌*◌, ◌/◌, ◌<◌, true, ◌==◌, get_or, refl, eqb-true}
use Rattle.std.proofs.lemmas.Bool.{agree_below_at}
use Rattle.pmt_text.specs.declared.line_text.TheConstants.{DECIMALS}
use Rattle.pmt_text.specs.Spelling.{glyph}
use Rattle.pmt_text.proofs.line_text.tens.Goals as goal

in_table : (b : ℕ) → b < 100 → get_or DECIMALS (2 * b) 0 ≡ glyph (b / 10)
in_table b l = eqb-true _ _ (agree_below_at (λ n. get_or DECIMALS (2 * n) 0 == glyph (n / 10)) (λ _. true) 100 b refl l)

pub returns : goal.returns
returns c = in_table c.args.number c.requires
