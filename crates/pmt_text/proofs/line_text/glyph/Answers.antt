-- The table is held against the definition at each of the 16 digits, by computing.
use Rattle.std.proofs.Common.{◌≡◌, ℕ, ◌<◌, true, ◌==◌, get_or, refl, eqb-true}
use Rattle.std.proofs.lemmas.Bool.{agree_below_at}
use Rattle.pmt_text.specs.declared.line_text.TheConstants.{GLYPHS}
use Rattle.pmt_text.specs.Spelling.{glyph}
use Rattle.pmt_text.proofs.line_text.glyph.Goals as goal

in_table : (d : ℕ) → d < 16 → get_or GLYPHS d 0 ≡ glyph d
in_table d l = eqb-true _ _ (agree_below_at (λ n. get_or GLYPHS n 0 == glyph n) (λ _. true) 16 d refl l)

pub returns : goal.returns
returns c = in_table c.args.digit c.requires
