use Rattle.std.proofs.Common.{drop}
use Rattle.pmt_sources.proofs.FoundLemmas.{IsLeft}
use Rattle.pmt_sources.proofs.found.found_line.Given as goal

abbrev pub invariant-loop-line : goal.invariant-loop-line
invariant-loop-line l = IsLeft l.place l.lines (drop l.line-index l.lines)
