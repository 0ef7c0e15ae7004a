use Rattle.std.proofs.Common.{◌≡◌}
use Rattle.pmt_sources.specs.Places.{after_lines}
use Rattle.pmt_sources.proofs.lines.line_in.Given as goal

abbrev pub invariant-loop : goal.invariant-loop
invariant-loop l = l.rest ≡ after_lines l.counter l.text
