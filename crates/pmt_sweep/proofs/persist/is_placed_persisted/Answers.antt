use Rattle.std.proofs.Common.{refl, arith}
use Rattle.std.proofs.lemmas.Grind.{elements}
use Rattle.pmt_sweep.proofs.LineLemmas.{at-line, bare-safe, bare-unplaced}
use Rattle.pmt_sweep.proofs.persist.is_placed_persisted.Goals as goal

pub returns-in-Some : goal.returns-in-Some
returns-in-Some c = λ T n A are. c.is_line_persisted.ensures T n A (at-line T n A c.args.lines.now _ c.args.known.now are (c.in-Some.ensures.found T n are.known) c.in-Some.ensures.small)

pub returns-in-None : goal.returns-in-None
returns-in-None c = λ T n A are. (λ told. bare-safe T n c.args.line A (bare-unplaced T n c.args.line A c.args.known.now are.known (c.in-None.ensures.found T n are.known)), λ safe. refl)

pub is_line_persisted-requires : goal.is_line_persisted-requires
is_line_persisted-requires c = grind (arith, elements)
